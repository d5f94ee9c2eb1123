-- What a step changes in the view of the seat that does it. This project's own.
use Rattle.std.specs.Prelude.{◌≡◌, ◌≢◌, ◌==◌, ◌+◌, ◌-◌, ◌<◌, ◌<◌, ℕ, Bool, true, false, [], ◌∷◌, if◌then◌else◌, nat_lt}
use Rattle.heap_terms.specs.declared.steps.WordStep.{WordStep}
use Rattle.heap_terms.specs.declared.steps.WordStep.TheVariants.{Resume, Enter, Leave, Park, Claim, Post, Look, Release, Return}
use Rattle.heap_terms.specs.WordMachine.{has, place_of, becomes}
use Rattle.stop_words.specs.declared.view.Place.{Place}
use Rattle.stop_words.specs.declared.view.Place.TheVariants.{Parked, Outside, Inside, Holding}
use Rattle.stop_words.specs.declared.view.View.{View}
use Rattle.stop_words.specs.Places.{is_in, without}

-- the view at another place
abbrev pub moved : View → Place → View
moved v p = record v { place = p }

-- u joins the threads that were seen parked, where it is not among them
abbrev pub seeing : Bool → ℕ → View → View
seeing true u v = v
seeing false u v = record v { seen = u ∷ v.seen }

-- what the step changes beside the count of steps and the latest step, where it found this word
abbrev pub changed_by : WordStep → ℕ → View → View
changed_by Resume found v = if found == 4 then moved v Outside else v
changed_by Enter found v = if found == 0 then moved v Inside else v
changed_by Leave found v = moved v Outside
changed_by Park found v = moved v Parked
changed_by Claim found v = if found == 0 then moved v Holding else v
changed_by (Post u) found v = record v { posted = u ∷ v.posted }
changed_by (Look u) found v = if has 4 found then seeing (is_in u v.seen) u v else v
changed_by (Release u) found v = record v { posted = without u v.posted; seen = without u v.seen }
changed_by Return found v = record v { place = Outside; posted = []; seen = [] }

-- one more step, which met this word, found this in it, and left that
abbrev pub counted : View → ℕ → ℕ → ℕ → View
counted v i n k = record v { steps = v.steps + 1; word = i; found = n; left = k }

-- the view after a step that found this word: it left in it what the step of the word machine makes of it
abbrev pub view_after : WordStep → ℕ → View → View
view_after step n v = counted (changed_by step n v) (place_of v.thread step) n (becomes v.thread step n)

-- the holder of the turn has posted a stop to each other thread
abbrev pub PostedToAll : View → ℕ → Type 0
PostedToAll v threads = (u : ℕ) → u < threads → u ≢ v.thread → is_in u v.posted ≡ true

-- the holder of the turn has seen each other thread parked
abbrev pub SeenAll : View → ℕ → Type 0
SeenAll v threads = (u : ℕ) → u < threads → u ≢ v.thread → is_in u v.seen ≡ true

-- how many threads below k there are beside t
abbrev pub others_below : ℕ → ℕ → ℕ
others_below t k = if nat_lt t k then k - 1 else k
