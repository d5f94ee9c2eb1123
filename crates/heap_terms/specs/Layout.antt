-- The layout of objects in words of 64 bits. As in SBCL: a pointer is tagged in its low four bits with 3, 7, 11 or 15, a
-- fixnum is twice its number, a cons is two words without a header, and a header has a byte for its kind below the
-- length. This project's own are the kind bytes, the words for NIL, unbound and filler, and the sizes. Nothing is left free.
use Rattle.std.specs.Prelude.{ℕ, ℤ, pos, negsuc, ◌+◌, ◌-◌, ◌*◌, ◌/◌, ◌^◌}
use Rattle.heap_terms.specs.declared.kinds.Kind.{Kind}
use Rattle.heap_terms.specs.declared.kinds.Kind.TheVariants as kinds
use Rattle.heap_terms.specs.declared.kinds.PageType.{PageType}
use Rattle.heap_terms.specs.declared.kinds.PageType.TheVariants as types
use Rattle.heap_terms.specs.declared.kinds.Weakness.{Weakness}
use Rattle.heap_terms.specs.declared.kinds.Weakness.TheVariants as weaknesses
use Rattle.heap_terms.specs.declared.limits.TheConstants.{PAGE_WORDS}

-- the byte address of the word with index 0
abbrev pub base_address : ℕ
base_address = 0x1000000000

-- the word of NIL
abbrev pub nil_word : ℕ
nil_word = 0x117

-- the word of the value Unbound
abbrev pub unbound_word : ℕ
unbound_word = 0x51

-- what stands below a page's fill in words that belong to no object
abbrev pub filler_word : ℕ
filler_word = 0x41

-- how many words a page has
abbrev pub page_words : ℕ
page_words = PAGE_WORDS

-- the low four bits of a reference, by the kind of the object: SBCL's list, instance, function and other pointers
abbrev pub lowtag_of : Kind → ℕ
lowtag_of kinds.Cons = 7
lowtag_of kinds.Vector = 15
lowtag_of kinds.Instance = 3
lowtag_of kinds.Closure = 11
lowtag_of kinds.Words = 15
lowtag_of kinds.Weak = 15
lowtag_of kinds.Table = 15

-- the low byte of a header; a cons has no header
abbrev pub kind_byte_of : Kind → ℕ
kind_byte_of kinds.Cons = 0
kind_byte_of kinds.Vector = 0x21
kind_byte_of kinds.Instance = 0x29
kind_byte_of kinds.Closure = 0x35
kind_byte_of kinds.Words = 0x25
kind_byte_of kinds.Weak = 0x2D
kind_byte_of kinds.Table = 0x31

-- the type of the pages on which objects of a kind lie
abbrev pub page_type_of : Kind → PageType
page_type_of kinds.Cons = types.Cons
page_type_of kinds.Vector = types.Boxed
page_type_of kinds.Instance = types.Boxed
page_type_of kinds.Closure = types.Boxed
page_type_of kinds.Words = types.Unboxed
page_type_of kinds.Weak = types.Boxed
page_type_of kinds.Table = types.Boxed

-- one word of header and n words of payload, rounded up to an even number
abbrev pub size_with_header : ℕ → ℕ
size_with_header n = 2 * ((n + 2) / 2)

-- how many words an object with n words of payload takes
abbrev pub size_of : Kind → ℕ → ℕ
size_of kinds.Cons n = 2
size_of kinds.Vector n = size_with_header n
size_of kinds.Instance n = size_with_header n
size_of kinds.Closure n = size_with_header n
size_of kinds.Words n = size_with_header n
size_of kinds.Weak n = size_with_header n
size_of kinds.Table n = size_with_header n

-- the first word of an object with n words of payload, of every kind but a cons
abbrev pub header_of : Kind → ℕ → ℕ
header_of kind n = n * 256 + kind_byte_of kind

-- the word of a reference to an object of a kind that starts at an index
abbrev pub reference_word : ℕ → Kind → ℕ
reference_word index kind = base_address + 8 * index + lowtag_of kind

-- the word of the fixnum n: 2n modulo 2^64
abbrev pub fixnum_word : ℤ → ℕ
fixnum_word (pos n) = 2 * n
fixnum_word (negsuc n) = 2 ^ 64 - 2 * (n + 1)

-- the number that stands for a weakness in a table's second word
abbrev pub weakness_number : Weakness → ℕ
weakness_number weaknesses.Strong = 0
weakness_number weaknesses.Key = 1
weakness_number weaknesses.Value = 2
weakness_number weaknesses.KeyAndValue = 3
weakness_number weaknesses.KeyOrValue = 4
