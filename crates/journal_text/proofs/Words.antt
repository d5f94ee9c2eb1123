-- Words of a fixed list.
use Rattle.std.proofs.Common.{◌≡◌, ℕ, List, ◌∷◌, Option, Some, None, refl, ap, ◌∙◌}
use Rattle.std.specs.Option.{MatchOption}
use Rattle.heap_terms.specs.declared.kinds.PageType.{PageType}
use Rattle.heap_terms.specs.declared.kinds.PageType.TheVariants as types
use Rattle.heap_terms.specs.declared.kinds.Weakness.{Weakness}
use Rattle.heap_terms.specs.declared.kinds.Weakness.TheVariants as weaknesses
use Rattle.heap_terms.specs.Text.{type_text, weakness_text}
use Rattle.journal_text.specs.declared.parsing.openings.Filling.{Filling}
use Rattle.journal_text.specs.declared.parsing.openings.Filling.TheVariants as fillings
use Rattle.journal_text.specs.AnswerReading.{a_filling, filling_text, an_opening, a_short_opening, a_long_opening, opening_text}
use Rattle.heap_terms.specs.declared.answers.Refusal.TheVariants as refusals
use Rattle.journal_text.specs.declared.parsing.openings.Opening.{Opening}
use Rattle.journal_text.specs.declared.parsing.openings.Opening.TheVariants as openings
use Rattle.journal_text.specs.FieldReading.{a_type, a_weakness, a_mixed_weakness}
use Rattle.journal_text.specs.declared.parsing.records.Kind.{Kind}
use Rattle.journal_text.specs.declared.parsing.records.Kind.TheVariants as kinds
use Rattle.journal_text.specs.declared.parsing.records.Verb.{Verb}
use Rattle.journal_text.specs.declared.parsing.records.Verb.TheVariants as verbs
use Rattle.journal_text.specs.declared.parsing.words.Name.{Name}
use Rattle.journal_text.specs.declared.parsing.words.Name.TheVariants as names
use Rattle.journal_text.specs.PieceReading.{a_kind, kind_text, a_verb, verb_text}
use Rattle.journal_text.specs.Words.{command_word, word_of}
use Rattle.journal_text.specs.LineReading.{Gives, first}

pub type_again : (ty : PageType) → a_type (type_text ty) ≡ Some ty
unfolding a_type
type_again types.Cons = refl
type_again types.Boxed = refl
type_again types.Unboxed = refl

pub weakness_again : (w : Weakness) → a_weakness (weakness_text w) ≡ Some w
unfolding a_weakness a_mixed_weakness
weakness_again weaknesses.Strong = refl
weakness_again weaknesses.Key = refl
weakness_again weaknesses.Value = refl
weakness_again weaknesses.KeyAndValue = refl
weakness_again weaknesses.KeyOrValue = refl

pub filling_again : (w : Filling) → a_filling (filling_text w) ≡ Some w
unfolding a_filling
filling_again fillings.Fill = refl
filling_again fillings.Large = refl

pub opening_again : (o : Opening) → an_opening (opening_text o) ≡ Some o
unfolding a_short_opening a_long_opening
opening_again openings.Done = refl
opening_again openings.Yes = refl
opening_again openings.No = refl
opening_again openings.Absent = refl
opening_again openings.Broken = refl
opening_again openings.Nil = refl
opening_again openings.Free = refl
opening_again openings.Live = refl
opening_again openings.Ran = refl
opening_again openings.Stat = refl
opening_again (openings.Page types.Cons) = refl
opening_again (openings.Page types.Boxed) = refl
opening_again (openings.Page types.Unboxed) = refl
opening_again (openings.Refused refusals.NotType) = refl
opening_again (openings.Refused refusals.OutOfRange) = refl
opening_again (openings.Refused refusals.TableFull) = refl
opening_again (openings.Refused refusals.Exhausted) = refl
opening_again (openings.Refused refusals.Nothing) = refl
opening_again (openings.Refused refusals.PinsFull) = refl

pub kind_again : (k : Kind) → a_kind (kind_text k) ≡ Some k
unfolding a_kind
kind_again kinds.Pass = refl
kind_again kinds.Move = refl
kind_again kinds.Stay = refl
kind_again kinds.Pin = refl
kind_again kinds.Cull = refl
kind_again kinds.Break = refl
kind_again kinds.Queue = refl
kind_again kinds.Free = refl
kind_again kinds.Swept = refl
kind_again kinds.Done = refl

pub verb_again : (v : Verb) → a_verb (verb_text v) ≡ Some v
unfolding a_verb
verb_again verbs.Open = refl
verb_again verbs.Collect = refl
verb_again verbs.End = refl

pub name_again : (n : Name) → command_word (word_of n) ≡ Some n
unfolding command_word
name_again names.Fix = refl
name_again names.Nil = refl
name_again names.Move = refl
name_again names.Cons = refl
name_again names.Vector = refl
name_again names.Instance = refl
name_again names.Closure = refl
name_again names.Words = refl
name_again names.Weak = refl
name_again names.Table = refl
name_again names.Get = refl
name_again names.Put = refl
name_again names.RawGet = refl
name_again names.RawPut = refl
name_again names.Eq = refl
name_again names.Show = refl
name_again names.Addr = refl
name_again names.Raw = refl
name_again names.Add = refl
name_again names.Pin = refl
name_again names.Unpin = refl
name_again names.WeakVal = refl
name_again names.Tput = refl
name_again names.Tget = refl
name_again names.Trem = refl
name_again names.Tcount = refl
name_again names.Finalize = refl
name_again names.Cancel = refl
name_again names.RunFin = refl
name_again names.Gc = refl
name_again names.NoGc = refl
name_again names.GcOk = refl
name_again names.Page = refl
name_again names.Stat = refl

-- a word that was found is what the reader says
pub found : {A : Type 0} (reads : List ℕ → Option A) (text : A → List ℕ) → ((x : A) → reads (text x) ≡ Some x) → (field : List ℕ) (r : Option A) →
    MatchOption r (reads field ≡ None) (λ x. field ≡ text x) → reads field ≡ r
found reads text again field None h = h
found reads text again field (Some x) h = ap reads h ∙ again x

pub first_found : {A : Type 0} (reads : List ℕ → Option A) (field : List ℕ) (old new : List (List ℕ)) (r : Option A) → old ≡ field ∷ new → reads field ≡ r → Gives (first reads) old new r
first_found reads field old new None e h = ap (first reads) e ∙ (rw h refl)
first_found reads field old new (Some x) e h = ap (first reads) e ∙ (rw h refl)
