-- What finalizers keep: the queue has room for all that is registered, and neither list is too long to be counted.
use Rattle.std.specs.Prelude.{◌+◌, ◌^◌, ◌<◌, ◌≤◌, vec_len, vec_capacity}
use Rattle.finalizers.specs.Lists.{Lists}
use Rattle.finalizers.specs.declared.lists.Finalizers.TheInside.{Inside}

abbrev pub lists_of : Inside → Lists
lists_of s = record { registered = s.registered.items; queue = s.queue.items }

pub record HasRoom (s : Inside) : Type 0 where
  pub room : vec_len s.registered + vec_len s.queue ≤ vec_capacity s.queue
  pub few : vec_len s.registered + vec_len s.queue < 2 ^ 32
