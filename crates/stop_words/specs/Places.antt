-- Words and lists of threads, and what a place makes of them. This project's own.
use Rattle.std.specs.Prelude.{◌==◌, ℕ, Bool, true, false, not, List, [], ◌∷◌, if◌then◌else◌, filter}
use Rattle.stop_words.specs.declared.view.Place.{Place}
use Rattle.stop_words.specs.declared.view.Place.TheVariants.{Parked, Outside, Inside, Holding}

-- the word of a thread that is at this place, and to which a stop is posted or not
abbrev pub word_of : Place → Bool → ℕ
word_of Parked false = 4
word_of Parked true = 6
word_of Outside false = 0
word_of Outside true = 2
word_of Inside false = 1
word_of Inside true = 3
word_of Holding false = 0
word_of Holding true = 2

-- the number is in the list
abbrev pub is_in : ℕ → List ℕ → Bool
is_in x [] = false
is_in x (y ∷ ys) = if x == y then true else is_in x ys

-- the list without the number
abbrev pub without : ℕ → List ℕ → List ℕ
without x xs = filter (λ y. not (y == x)) xs

-- a list that only the holder of the turn has
abbrev pub lists_at : Place → List ℕ → List ℕ
lists_at Holding xs = xs
lists_at Parked xs = []
lists_at Outside xs = []
lists_at Inside xs = []

-- the parcel of a thread at this place, which the holder has seen parked or not, lies in its slot
abbrev pub is_home : Place → Bool → Bool
is_home Parked false = true
is_home Parked true = false
is_home Outside b = false
is_home Inside b = false
is_home Holding b = false
