-- A word that a reader takes is the text of what it answers.
use Rattle.std.proofs.Common.{◌≡◌, ℕ, Bool, true, false, List, Option, Some, None, cond, refl, ap, ◌∙◌, inl, inr, ◌⊎◌}
use Rattle.std.specs.Prelude.{codes}
use Rattle.std.specs.Str.{bytes_eq}
use Rattle.std.proofs.lemmas.Option.{none-some}
use Rattle.std.proofs.lemmas.Slice.Eq.{bytes_eq-Decides}
use Rattle.heap_terms.specs.declared.answers.Refusal.TheVariants as refusals
use Rattle.heap_terms.specs.declared.kinds.PageType.{PageType}
use Rattle.heap_terms.specs.declared.kinds.PageType.TheVariants as types
use Rattle.heap_terms.specs.declared.kinds.Weakness.{Weakness}
use Rattle.heap_terms.specs.declared.kinds.Weakness.TheVariants as weaknesses
use Rattle.heap_terms.specs.Text.{type_text, weakness_text}
use Rattle.journal_text.specs.declared.parsing.openings.Filling.{Filling}
use Rattle.journal_text.specs.declared.parsing.openings.Filling.TheVariants as fillings
use Rattle.journal_text.specs.declared.parsing.openings.Opening.{Opening}
use Rattle.journal_text.specs.declared.parsing.openings.Opening.TheVariants as openings
use Rattle.journal_text.specs.declared.parsing.records.Kind.{Kind}
use Rattle.journal_text.specs.declared.parsing.records.Kind.TheVariants as kinds
use Rattle.journal_text.specs.declared.parsing.records.Verb.{Verb}
use Rattle.journal_text.specs.declared.parsing.records.Verb.TheVariants as verbs
use Rattle.journal_text.specs.declared.parsing.words.Name.{Name}
use Rattle.journal_text.specs.declared.parsing.words.Name.TheVariants as names
use Rattle.journal_text.specs.AnswerReading.{a_filling, filling_text, an_opening, a_short_opening, a_long_opening, opening_text, or_else}
use Rattle.journal_text.specs.FieldReading.{a_type, a_weakness, a_mixed_weakness}
use Rattle.journal_text.specs.PieceReading.{a_kind, kind_text, a_verb, verb_text}
use Rattle.journal_text.specs.Words.{command_word, word_of}

tested : {A : Type 0} (f word : List ℕ) (x y : A) (other : Option A) (b : Bool) → bytes_eq f word ≡ b → cond b (Some x) other ≡ Some y → ((f ≡ word) × (x ≡ y)) ⊎ (other ≡ Some y)
tested f word x y other true e told = inl ((bytes_eq-Decides f word).0 e, cc)
tested f word x y other false e told = inr told

pub weakness_found : (f : List ℕ) (x : Weakness) → a_weakness f ≡ Some x → f ≡ weakness_text x
unfolding a_weakness a_mixed_weakness
weakness_found f x e = elim (tested f (codes "strong") (weaknesses.Strong) x _ (bytes_eq f (codes "strong")) refl e) [
  | inl h ↦ h.0 ∙ ap weakness_text h.1
  | inr e ↦
      elim (tested f (codes "key") (weaknesses.Key) x _ (bytes_eq f (codes "key")) refl e) [
        | inl h ↦ h.0 ∙ ap weakness_text h.1
        | inr e ↦
            elim (tested f (codes "value") (weaknesses.Value) x _ (bytes_eq f (codes "value")) refl e) [
              | inl h ↦ h.0 ∙ ap weakness_text h.1
              | inr e ↦
                  elim (tested f (codes "key-and-value") (weaknesses.KeyAndValue) x _ (bytes_eq f (codes "key-and-value")) refl e) [
                    | inl h ↦ h.0 ∙ ap weakness_text h.1
                    | inr e ↦
                        elim (tested f (codes "key-or-value") (weaknesses.KeyOrValue) x _ (bytes_eq f (codes "key-or-value")) refl e) [
                          | inl h ↦ h.0 ∙ ap weakness_text h.1
                          | inr e ↦
                              absurd (none-some x e)
                        ]
                  ]
            ]
      ]
]

pub type_found : (f : List ℕ) (x : PageType) → a_type f ≡ Some x → f ≡ type_text x
unfolding a_type
type_found f x e = elim (tested f (codes "cons") (types.Cons) x _ (bytes_eq f (codes "cons")) refl e) [
  | inl h ↦ h.0 ∙ ap type_text h.1
  | inr e ↦
      elim (tested f (codes "boxed") (types.Boxed) x _ (bytes_eq f (codes "boxed")) refl e) [
        | inl h ↦ h.0 ∙ ap type_text h.1
        | inr e ↦
            elim (tested f (codes "unboxed") (types.Unboxed) x _ (bytes_eq f (codes "unboxed")) refl e) [
              | inl h ↦ h.0 ∙ ap type_text h.1
              | inr e ↦
                  absurd (none-some x e)
            ]
      ]
]

pub filling_found : (f : List ℕ) (x : Filling) → a_filling f ≡ Some x → f ≡ filling_text x
unfolding a_filling
filling_found f x e = elim (tested f (codes "fill") (fillings.Fill) x _ (bytes_eq f (codes "fill")) refl e) [
  | inl h ↦ h.0 ∙ ap filling_text h.1
  | inr e ↦
      elim (tested f (codes "large") (fillings.Large) x _ (bytes_eq f (codes "large")) refl e) [
        | inl h ↦ h.0 ∙ ap filling_text h.1
        | inr e ↦
            absurd (none-some x e)
      ]
]

pub kind_found : (f : List ℕ) (x : Kind) → a_kind f ≡ Some x → f ≡ kind_text x
unfolding a_kind
kind_found f x e = elim (tested f (codes "pass") (kinds.Pass) x _ (bytes_eq f (codes "pass")) refl e) [
  | inl h ↦ h.0 ∙ ap kind_text h.1
  | inr e ↦
      elim (tested f (codes "move") (kinds.Move) x _ (bytes_eq f (codes "move")) refl e) [
        | inl h ↦ h.0 ∙ ap kind_text h.1
        | inr e ↦
            elim (tested f (codes "stay") (kinds.Stay) x _ (bytes_eq f (codes "stay")) refl e) [
              | inl h ↦ h.0 ∙ ap kind_text h.1
              | inr e ↦
                  elim (tested f (codes "pin") (kinds.Pin) x _ (bytes_eq f (codes "pin")) refl e) [
                    | inl h ↦ h.0 ∙ ap kind_text h.1
                    | inr e ↦
                        elim (tested f (codes "cull") (kinds.Cull) x _ (bytes_eq f (codes "cull")) refl e) [
                          | inl h ↦ h.0 ∙ ap kind_text h.1
                          | inr e ↦
                              elim (tested f (codes "break") (kinds.Break) x _ (bytes_eq f (codes "break")) refl e) [
                                | inl h ↦ h.0 ∙ ap kind_text h.1
                                | inr e ↦
                                    elim (tested f (codes "queue") (kinds.Queue) x _ (bytes_eq f (codes "queue")) refl e) [
                                      | inl h ↦ h.0 ∙ ap kind_text h.1
                                      | inr e ↦
                                          elim (tested f (codes "free") (kinds.Free) x _ (bytes_eq f (codes "free")) refl e) [
                                            | inl h ↦ h.0 ∙ ap kind_text h.1
                                            | inr e ↦
                                                elim (tested f (codes "swept") (kinds.Swept) x _ (bytes_eq f (codes "swept")) refl e) [
                                                  | inl h ↦ h.0 ∙ ap kind_text h.1
                                                  | inr e ↦
                                                      elim (tested f (codes "done") (kinds.Done) x _ (bytes_eq f (codes "done")) refl e) [
                                                        | inl h ↦ h.0 ∙ ap kind_text h.1
                                                        | inr e ↦
                                                            absurd (none-some x e)
                                                      ]
                                                ]
                                          ]
                                    ]
                              ]
                        ]
                  ]
            ]
      ]
]

pub verb_found : (f : List ℕ) (x : Verb) → a_verb f ≡ Some x → f ≡ verb_text x
unfolding a_verb
verb_found f x e = elim (tested f (codes "open") (verbs.Open) x _ (bytes_eq f (codes "open")) refl e) [
  | inl h ↦ h.0 ∙ ap verb_text h.1
  | inr e ↦
      elim (tested f (codes "collect") (verbs.Collect) x _ (bytes_eq f (codes "collect")) refl e) [
        | inl h ↦ h.0 ∙ ap verb_text h.1
        | inr e ↦
            elim (tested f (codes "end") (verbs.End) x _ (bytes_eq f (codes "end")) refl e) [
              | inl h ↦ h.0 ∙ ap verb_text h.1
              | inr e ↦
                  absurd (none-some x e)
            ]
      ]
]

pub name_found : (f : List ℕ) (x : Name) → command_word f ≡ Some x → f ≡ word_of x
unfolding command_word
name_found f x e = elim (tested f (codes "fix") (names.Fix) x _ (bytes_eq f (codes "fix")) refl e) [
  | inl h ↦ h.0 ∙ ap word_of h.1
  | inr e ↦
      elim (tested f (codes "cons") (names.Cons) x _ (bytes_eq f (codes "cons")) refl e) [
        | inl h ↦ h.0 ∙ ap word_of h.1
        | inr e ↦
            elim (tested f (codes "get") (names.Get) x _ (bytes_eq f (codes "get")) refl e) [
              | inl h ↦ h.0 ∙ ap word_of h.1
              | inr e ↦
                  elim (tested f (codes "put") (names.Put) x _ (bytes_eq f (codes "put")) refl e) [
                    | inl h ↦ h.0 ∙ ap word_of h.1
                    | inr e ↦
                        elim (tested f (codes "show") (names.Show) x _ (bytes_eq f (codes "show")) refl e) [
                          | inl h ↦ h.0 ∙ ap word_of h.1
                          | inr e ↦
                              elim (tested f (codes "nil") (names.Nil) x _ (bytes_eq f (codes "nil")) refl e) [
                                | inl h ↦ h.0 ∙ ap word_of h.1
                                | inr e ↦
                                    elim (tested f (codes "move") (names.Move) x _ (bytes_eq f (codes "move")) refl e) [
                                      | inl h ↦ h.0 ∙ ap word_of h.1
                                      | inr e ↦
                                          elim (tested f (codes "vector") (names.Vector) x _ (bytes_eq f (codes "vector")) refl e) [
                                            | inl h ↦ h.0 ∙ ap word_of h.1
                                            | inr e ↦
                                                elim (tested f (codes "instance") (names.Instance) x _ (bytes_eq f (codes "instance")) refl e) [
                                                  | inl h ↦ h.0 ∙ ap word_of h.1
                                                  | inr e ↦
                                                      elim (tested f (codes "closure") (names.Closure) x _ (bytes_eq f (codes "closure")) refl e) [
                                                        | inl h ↦ h.0 ∙ ap word_of h.1
                                                        | inr e ↦
                                                            elim (tested f (codes "words") (names.Words) x _ (bytes_eq f (codes "words")) refl e) [
                                                              | inl h ↦ h.0 ∙ ap word_of h.1
                                                              | inr e ↦
                                                                  elim (tested f (codes "weak") (names.Weak) x _ (bytes_eq f (codes "weak")) refl e) [
                                                                    | inl h ↦ h.0 ∙ ap word_of h.1
                                                                    | inr e ↦
                                                                        elim (tested f (codes "table") (names.Table) x _ (bytes_eq f (codes "table")) refl e) [
                                                                          | inl h ↦ h.0 ∙ ap word_of h.1
                                                                          | inr e ↦
                                                                              elim (tested f (codes "rawget") (names.RawGet) x _ (bytes_eq f (codes "rawget")) refl e) [
                                                                                | inl h ↦ h.0 ∙ ap word_of h.1
                                                                                | inr e ↦
                                                                                    elim (tested f (codes "rawput") (names.RawPut) x _ (bytes_eq f (codes "rawput")) refl e) [
                                                                                      | inl h ↦ h.0 ∙ ap word_of h.1
                                                                                      | inr e ↦
                                                                                          elim (tested f (codes "eq") (names.Eq) x _ (bytes_eq f (codes "eq")) refl e) [
                                                                                            | inl h ↦ h.0 ∙ ap word_of h.1
                                                                                            | inr e ↦
                                                                                                elim (tested f (codes "addr") (names.Addr) x _ (bytes_eq f (codes "addr")) refl e) [
                                                                                                  | inl h ↦ h.0 ∙ ap word_of h.1
                                                                                                  | inr e ↦
                                                                                                      elim (tested f (codes "raw") (names.Raw) x _ (bytes_eq f (codes "raw")) refl e) [
                                                                                                        | inl h ↦ h.0 ∙ ap word_of h.1
                                                                                                        | inr e ↦
                                                                                                            elim (tested f (codes "add") (names.Add) x _ (bytes_eq f (codes "add")) refl e) [
                                                                                                              | inl h ↦ h.0 ∙ ap word_of h.1
                                                                                                              | inr e ↦
                                                                                                                  elim (tested f (codes "pin") (names.Pin) x _ (bytes_eq f (codes "pin")) refl e) [
                                                                                                                    | inl h ↦ h.0 ∙ ap word_of h.1
                                                                                                                    | inr e ↦
                                                                                                                        elim (tested f (codes "unpin") (names.Unpin) x _ (bytes_eq f (codes "unpin")) refl e) [
                                                                                                                          | inl h ↦ h.0 ∙ ap word_of h.1
                                                                                                                          | inr e ↦
                                                                                                                              elim (tested f (codes "weakval") (names.WeakVal) x _ (bytes_eq f (codes "weakval")) refl e) [
                                                                                                                                | inl h ↦ h.0 ∙ ap word_of h.1
                                                                                                                                | inr e ↦
                                                                                                                                    elim (tested f (codes "tput") (names.Tput) x _ (bytes_eq f (codes "tput")) refl e) [
                                                                                                                                      | inl h ↦ h.0 ∙ ap word_of h.1
                                                                                                                                      | inr e ↦
                                                                                                                                          elim (tested f (codes "tget") (names.Tget) x _ (bytes_eq f (codes "tget")) refl e) [
                                                                                                                                            | inl h ↦ h.0 ∙ ap word_of h.1
                                                                                                                                            | inr e ↦
                                                                                                                                                elim (tested f (codes "trem") (names.Trem) x _ (bytes_eq f (codes "trem")) refl e) [
                                                                                                                                                  | inl h ↦ h.0 ∙ ap word_of h.1
                                                                                                                                                  | inr e ↦
                                                                                                                                                      elim (tested f (codes "tcount") (names.Tcount) x _ (bytes_eq f (codes "tcount")) refl e) [
                                                                                                                                                        | inl h ↦ h.0 ∙ ap word_of h.1
                                                                                                                                                        | inr e ↦
                                                                                                                                                            elim (tested f (codes "finalize") (names.Finalize) x _ (bytes_eq f (codes "finalize")) refl e) [
                                                                                                                                                              | inl h ↦ h.0 ∙ ap word_of h.1
                                                                                                                                                              | inr e ↦
                                                                                                                                                                  elim (tested f (codes "cancel") (names.Cancel) x _ (bytes_eq f (codes "cancel")) refl e) [
                                                                                                                                                                    | inl h ↦ h.0 ∙ ap word_of h.1
                                                                                                                                                                    | inr e ↦
                                                                                                                                                                        elim (tested f (codes "runfin") (names.RunFin) x _ (bytes_eq f (codes "runfin")) refl e) [
                                                                                                                                                                          | inl h ↦ h.0 ∙ ap word_of h.1
                                                                                                                                                                          | inr e ↦
                                                                                                                                                                              elim (tested f (codes "gc") (names.Gc) x _ (bytes_eq f (codes "gc")) refl e) [
                                                                                                                                                                                | inl h ↦ h.0 ∙ ap word_of h.1
                                                                                                                                                                                | inr e ↦
                                                                                                                                                                                    elim (tested f (codes "nogc") (names.NoGc) x _ (bytes_eq f (codes "nogc")) refl e) [
                                                                                                                                                                                      | inl h ↦ h.0 ∙ ap word_of h.1
                                                                                                                                                                                      | inr e ↦
                                                                                                                                                                                          elim (tested f (codes "gcok") (names.GcOk) x _ (bytes_eq f (codes "gcok")) refl e) [
                                                                                                                                                                                            | inl h ↦ h.0 ∙ ap word_of h.1
                                                                                                                                                                                            | inr e ↦
                                                                                                                                                                                                elim (tested f (codes "page") (names.Page) x _ (bytes_eq f (codes "page")) refl e) [
                                                                                                                                                                                                  | inl h ↦ h.0 ∙ ap word_of h.1
                                                                                                                                                                                                  | inr e ↦
                                                                                                                                                                                                      elim (tested f (codes "stat") (names.Stat) x _ (bytes_eq f (codes "stat")) refl e) [
                                                                                                                                                                                                        | inl h ↦ h.0 ∙ ap word_of h.1
                                                                                                                                                                                                        | inr e ↦
                                                                                                                                                                                                            absurd (none-some x e)
                                                                                                                                                                                                      ]
                                                                                                                                                                                                ]
                                                                                                                                                                                          ]
                                                                                                                                                                                    ]
                                                                                                                                                                              ]
                                                                                                                                                                        ]
                                                                                                                                                                  ]
                                                                                                                                                            ]
                                                                                                                                                      ]
                                                                                                                                                ]
                                                                                                                                          ]
                                                                                                                                    ]
                                                                                                                              ]
                                                                                                                        ]
                                                                                                                  ]
                                                                                                            ]
                                                                                                      ]
                                                                                                ]
                                                                                          ]
                                                                                    ]
                                                                              ]
                                                                        ]
                                                                  ]
                                                            ]
                                                      ]
                                                ]
                                          ]
                                    ]
                              ]
                        ]
                  ]
            ]
      ]
]

pub short_found : (f : List ℕ) (x : Opening) → a_short_opening f ≡ Some x → f ≡ opening_text x
unfolding a_short_opening
short_found f x e = elim (tested f (codes "ok") (openings.Done) x _ (bytes_eq f (codes "ok")) refl e) [
  | inl h ↦ h.0 ∙ ap opening_text h.1
  | inr e ↦
      elim (tested f (codes "yes") (openings.Yes) x _ (bytes_eq f (codes "yes")) refl e) [
        | inl h ↦ h.0 ∙ ap opening_text h.1
        | inr e ↦
            elim (tested f (codes "no") (openings.No) x _ (bytes_eq f (codes "no")) refl e) [
              | inl h ↦ h.0 ∙ ap opening_text h.1
              | inr e ↦
                  elim (tested f (codes "none") (openings.Absent) x _ (bytes_eq f (codes "none")) refl e) [
                    | inl h ↦ h.0 ∙ ap opening_text h.1
                    | inr e ↦
                        elim (tested f (codes "broken") (openings.Broken) x _ (bytes_eq f (codes "broken")) refl e) [
                          | inl h ↦ h.0 ∙ ap opening_text h.1
                          | inr e ↦
                              elim (tested f (codes "nil") (openings.Nil) x _ (bytes_eq f (codes "nil")) refl e) [
                                | inl h ↦ h.0 ∙ ap opening_text h.1
                                | inr e ↦
                                    elim (tested f (codes "free") (openings.Free) x _ (bytes_eq f (codes "free")) refl e) [
                                      | inl h ↦ h.0 ∙ ap opening_text h.1
                                      | inr e ↦
                                          elim (tested f (codes "live") (openings.Live) x _ (bytes_eq f (codes "live")) refl e) [
                                            | inl h ↦ h.0 ∙ ap opening_text h.1
                                            | inr e ↦
                                                elim (tested f (codes "ran") (openings.Ran) x _ (bytes_eq f (codes "ran")) refl e) [
                                                  | inl h ↦ h.0 ∙ ap opening_text h.1
                                                  | inr e ↦
                                                      elim (tested f (codes "cons") (openings.Page types.Cons) x _ (bytes_eq f (codes "cons")) refl e) [
                                                        | inl h ↦ h.0 ∙ ap opening_text h.1
                                                        | inr e ↦
                                                            elim (tested f (codes "boxed") (openings.Page types.Boxed) x _ (bytes_eq f (codes "boxed")) refl e) [
                                                              | inl h ↦ h.0 ∙ ap opening_text h.1
                                                              | inr e ↦
                                                                  elim (tested f (codes "unboxed") (openings.Page types.Unboxed) x _ (bytes_eq f (codes "unboxed")) refl e) [
                                                                    | inl h ↦ h.0 ∙ ap opening_text h.1
                                                                    | inr e ↦
                                                                        elim (tested f (codes "!type") (openings.Refused refusals.NotType) x _ (bytes_eq f (codes "!type")) refl e) [
                                                                          | inl h ↦ h.0 ∙ ap opening_text h.1
                                                                          | inr e ↦
                                                                              elim (tested f (codes "!range") (openings.Refused refusals.OutOfRange) x _ (bytes_eq f (codes "!range")) refl e) [
                                                                                | inl h ↦ h.0 ∙ ap opening_text h.1
                                                                                | inr e ↦
                                                                                    elim (tested f (codes "!full") (openings.Refused refusals.TableFull) x _ (bytes_eq f (codes "!full")) refl e) [
                                                                                      | inl h ↦ h.0 ∙ ap opening_text h.1
                                                                                      | inr e ↦
                                                                                          elim (tested f (codes "!empty") (openings.Refused refusals.Nothing) x _ (bytes_eq f (codes "!empty")) refl e) [
                                                                                            | inl h ↦ h.0 ∙ ap opening_text h.1
                                                                                            | inr e ↦
                                                                                                elim (tested f (codes "!pins") (openings.Refused refusals.PinsFull) x _ (bytes_eq f (codes "!pins")) refl e) [
                                                                                                  | inl h ↦ h.0 ∙ ap opening_text h.1
                                                                                                  | inr e ↦
                                                                                                      absurd (none-some x e)
                                                                                                ]
                                                                                          ]
                                                                                    ]
                                                                              ]
                                                                        ]
                                                                  ]
                                                            ]
                                                      ]
                                                ]
                                          ]
                                    ]
                              ]
                        ]
                  ]
            ]
      ]
]

pub long_found : (f : List ℕ) (x : Opening) → a_long_opening f ≡ Some x → f ≡ opening_text x
unfolding a_long_opening
long_found f x e = elim (tested f (codes "allocated") (openings.Stat) x _ (bytes_eq f (codes "allocated")) refl e) [
  | inl h ↦ h.0 ∙ ap opening_text h.1
  | inr e ↦
      elim (tested f (codes "!exhausted") (openings.Refused refusals.Exhausted) x _ (bytes_eq f (codes "!exhausted")) refl e) [
        | inl h ↦ h.0 ∙ ap opening_text h.1
        | inr e ↦
            absurd (none-some x e)
      ]
]

pub opening_found : (f : List ℕ) (x : Opening) → an_opening f ≡ Some x → f ≡ opening_text x
opening_found f x e = at (a_short_opening f) refl e
  where
    at : (told : Option Opening) → a_short_opening f ≡ told → or_else told (a_long_opening f) ≡ Some x → f ≡ opening_text x
    at None s e = long_found f x e
    at (Some y) s e = short_found f x (s ∙ e)
