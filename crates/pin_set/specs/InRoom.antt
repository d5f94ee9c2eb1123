-- What a set of starts keeps: no start twice, and room for as many as were asked for.
use Rattle.std.specs.Prelude.{◌+◌, ◌^◌, ◌≤◌, ◌<◌, nat_eq}
use Rattle.indexmap.specs.IndexSet.{IsUnique, index_set_len, spare}
use Rattle.pin_set.specs.Starts.{Starts}
use Rattle.pin_set.specs.declared.set.PinSet.TheInside.{Inside}

abbrev pub starts_of : Inside → Starts
starts_of s = record { listed = s.starts.keys; most = s.most }

pub record HasRoom (s : Inside) : Type 0 where
  pub once : IsUnique nat_eq s.starts
  pub room : s.most ≤ index_set_len s.starts + spare s.starts
  pub count : index_set_len s.starts < 2 ^ 32
