-- Hits: which objects an ambiguous word holds in their places. That words which only look like references pin is
-- SBCL's conservative control stack; that raw cells and pins count too, and that a word has to be equal to that of a
-- reference, is this project's own. Nothing is left free.
use Rattle.std.specs.Prelude.{ℕ, ◌==◌, ◌&&◌, List, ◌++◌, map, flat_map, Option, Some, None, Bool, false}
use Rattle.std.specs.List.{list_any}
use Rattle.heap_terms.specs.Generations.{is_of}
use Rattle.heap_terms.specs.Heap.{NamedHeap, Thread, object_at}
use Rattle.heap_terms.specs.Layout.{reference_word}
use Rattle.heap_terms.specs.Objects.{Object, kind_of}
use Rattle.heap_terms.specs.Spelling.{word_of}

-- the ambiguous words of a thread: its cells s, its raw cells and its pins
abbrev pub thread_words : List (Option Object) → Thread → List ℕ
thread_words objects th = map (word_of objects) th.stack ++ th.raws ++ th.pins

-- the ambiguous words of all threads
abbrev pub ambiguous_words : NamedHeap → List ℕ
ambiguous_words a = flat_map (thread_words a.objects) a.threads

-- whether a word hits an object: it is the word of a reference to it
abbrev pub hits : Option Object → ℕ → Bool
hits None word = false
hits (Some o) word = word == reference_word o.place (kind_of o.contents)

-- whether some ambiguous word hits a name
abbrev pub is_hit : NamedHeap → ℕ → Bool
is_hit a name = list_any (hits (object_at a.objects name)) (ambiguous_words a)

-- whether a name is pinned in a pass over generation g: it is of that generation, and hit
abbrev pub is_pinned : NamedHeap → ℕ → ℕ → Bool
is_pinned a g name = is_of a g name && is_hit a name
