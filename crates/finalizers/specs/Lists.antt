-- What a contract sees of finalizers.
use Rattle.std.specs.Prelude.{ℕ, ◌==◌, List, Bool, slice_index_or}
use Rattle.finalizers.specs.declared.lists.Registration.{Registration}

-- the registrations in their order, and the numbers that are queued, the oldest first
pub record Lists : Type 0 where
  pub registered : List Registration
  pub queue : List ℕ

-- whether something is registered for the object of a word
abbrev pub is_of : ℕ → Registration → Bool
is_of object r = r.object == object

-- a registration that stands for one past the list's end
abbrev pub no_registration : Registration
no_registration = record { object = 0; id = 0 }

abbrev pub registration_at : List Registration → ℕ → Registration
registration_at registered i = slice_index_or registered i no_registration
