-- The order of the names that a pass takes determines its record.
use Rattle.std.proofs.Common.{◌≡◌, ℕ, zero, suc, ◌+◌, ◌<◌, List, [], ◌∷◌, length, get_or, map, inl, inr, refl, sym, ◌∙◌, subst, ap, arith}
use Rattle.std.proofs.lemmas.Bool.{cases_eq, eqb-true}
use Rattle.std.proofs.lemmas.List.{get_or_default}
use Rattle.std.proofs.lemmas.Option.{same_Some}
use Rattle.std.specs.Prelude.{AllPairs, ◌==◌}
use Rattle.heap_terms.specs.declared.events.Cull.{Cull}
use Rattle.heap_terms.specs.declared.events.PassRecord.{PassRecord}
use Rattle.heap_terms.specs.declared.events.PinAt.{PinAt}
use Rattle.heap_terms.specs.declared.events.Placing.{Placing}
use Rattle.heap_terms.specs.Collections.{closed, after_pass_of, ArePasses, IsCollection}
use Rattle.heap_terms.specs.Heap.{NamedHeap, object_at}
use Rattle.heap_terms.specs.Objects.{Object}
use Rattle.heap_terms.specs.Passes.{IsPass, ArePins, remains, order_of, freed_of, dead_of, kept_of}
use Rattle.heap_terms.specs.Placement.{placement}
use Rattle.heap_terms.specs.Policy.{is_raised, target_of}
use Rattle.heap_terms.specs.Survival.{culls_of, breaks_of, queued_of}
use Rattle.pass_laws.proofs.Lookups.{found_at}

-- each element of a list stands in another
abbrev StandIn : List PinAt → List PinAt → Type 0
StandIn xs ys = (i : ℕ) → i < length xs → (j : ℕ) × (j < length ys) × ((d : PinAt) → get_or ys j d ≡ get_or xs i d)

Up : List PinAt → Type 0
Up xs = AllPairs (λ (q s : PinAt). q.index < s.index) xs

-- two lists that ascend and have the same elements are one
same_heads : (x y : PinAt) (xs ys : List PinAt) → Up (x ∷ xs) → Up (y ∷ ys) → StandIn (x ∷ xs) (y ∷ ys) → StandIn (y ∷ ys) (x ∷ xs) → x ≡ y
unfolding Up
same_heads x y xs ys up up' there back =
    let at = there 0 (omega arith) in
    let at' = back 0 (omega arith) in
    elim (cases_eq at.0 0) [
      | inl here ↦ (let e : get_or (y ∷ ys) 0 x ≡ x = subst (λ (j : ℕ). get_or (y ∷ ys) j x ≡ x) here (at.2 x) in sym e)
      | inr apart ↦ elim (cases_eq at'.0 0) [
        | inl here ↦ (let e : get_or (x ∷ xs) 0 y ≡ y = subst (λ (j : ℕ). get_or (x ∷ xs) j y ≡ y) here (at'.2 y) in e)
        | inr apart' ↦ (let low : y.index < (get_or (y ∷ ys) at.0 x).index = up' 0 at.0 x (omega arith) at.1 in
            let low' : x.index < (get_or (x ∷ xs) at'.0 y).index = up 0 at'.0 y (omega arith) at'.1 in
            let l : y.index < x.index = subst (λ (q : PinAt). y.index < q.index) (at.2 x) low in
            let l' : x.index < y.index = subst (λ (q : PinAt). x.index < q.index) (at'.2 y) low' in
            absurd (omega arith))
      ]
    ]

stand_rest : (x y : PinAt) (xs ys : List PinAt) → x ≡ y → Up (x ∷ xs) → StandIn (x ∷ xs) (y ∷ ys) → StandIn xs ys
unfolding Up
stand_rest x y xs ys same up there i l =
    let at = there (suc i) (omega arith) in
    let above : x.index < (get_or (x ∷ xs) (suc i) x).index = up 0 (suc i) x (omega arith) (omega arith) in
    go at.0 at.1 at.2 above
  where
    go : (j : ℕ) → j < length (y ∷ ys) → ((d : PinAt) → get_or (y ∷ ys) j d ≡ get_or xs i d) → x.index < (get_or xs i x).index →
        (k : ℕ) × (k < length ys) × ((d : PinAt) → get_or ys k d ≡ get_or xs i d)
    go zero m e above = (let same_index : y.index ≡ (get_or xs i x).index = ap (λ (q : PinAt). q.index) (e x) in
        let same_first : x.index ≡ y.index = ap (λ (q : PinAt). q.index) same in absurd (omega arith))
    go (suc j) m e above = (j, omega arith, e)

up_rest : (x : PinAt) (xs : List PinAt) → Up (x ∷ xs) → Up xs
unfolding Up
up_rest x xs up i j d l m = up (suc i) (suc j) d (omega arith) (omega arith)

same_pins : (xs ys : List PinAt) → Up xs → Up ys → StandIn xs ys → StandIn ys xs → xs ≡ ys
same_pins [] [] up up' there back = refl
same_pins [] (y ∷ ys) up up' there back = (let at = back 0 (omega arith) in let l = at.1 in absurd (omega arith))
same_pins (x ∷ xs) [] up up' there back = (let at = there 0 (omega arith) in let l = at.1 in absurd (omega arith))
same_pins (x ∷ xs) (y ∷ ys) up up' there back =
    let first = same_heads x y xs ys up up' there back in
    let rest = same_pins xs ys (up_rest x xs up) (up_rest y ys up') (stand_rest x y xs ys first up there) (stand_rest y x ys xs (sym first) up' back) in
    cc

-- the pins of a pass are one list
stands : (a : NamedHeap) (g : ℕ) (xs ys : List PinAt) → ArePins a g xs → ArePins a g ys → StandIn xs ys
stands a g xs ys one two i l =
    let d : PinAt = record { name = 0; index = 0 } in
    let q = get_or xs i d in
    let at = one.pinned i d l in
    let found = found_at (λ (s : PinAt). s.name == q.name) ys (two.all q.name at.3) in
    let s = get_or ys found.0 d in
    let name_is : s.name ≡ q.name = eqb-true s.name q.name (found.2 d) in
    let there = two.pinned found.0 d found.1 in
    let object_is : there.0 ≡ at.0 = same_Some there.0 at.0 (sym there.1 ∙ ap (λ (x : ℕ). object_at a.objects x) name_is ∙ at.1) in
    let index_is : s.index ≡ q.index = there.2 ∙ ap (λ (o : Object). o.place) object_is ∙ sym at.2 in
    let same : s ≡ q = pin_same s q name_is index_is in
    (found.0, found.1, λ e. get_or_default ys found.0 e d found.1 ∙ same ∙ get_or_default xs i d e l)
  where
    pin_same : (s q : PinAt) → s.name ≡ q.name → s.index ≡ q.index → s ≡ q
    pin_same s q n m = ap (λ (x : ℕ). record s { name = x }) n ∙ ap (λ (x : ℕ). record s { name = q.name; index = x }) m

pins_one : (a : NamedHeap) (g : ℕ) (xs ys : List PinAt) → ArePins a g xs → ArePins a g ys → xs ≡ ys
unfolding Up
pins_one a g xs ys one two = same_pins xs ys one.ascending two.ascending (stands a g xs ys one two) (stands a g ys xs two one)

-- a record from its first four parts, and what follows from them
made : NamedHeap → ℕ → ℕ → List Placing → List PinAt → PassRecord
made a g h moves pins =
    let bare : PassRecord = record { generation = g; target = h; moves = moves; pins = pins; culls = []; breaks = []; queued = []; freed = []; dead = 0; kept = 0 } in
    record bare {
      culls = culls_of a (remains a bare);
      breaks = breaks_of a (remains a bare);
      queued = queued_of a (remains a bare);
      freed = freed_of a bare;
      dead = dead_of a bare;
      kept = kept_of a bare;
    }

record_made : (a : NamedHeap) (g h : ℕ) (r : PassRecord) → IsPass a g h r → r ≡ made a r.generation r.target r.moves r.pins
unfolding made
record_made a g h r pass =
    ap (λ (x : List Cull). record r { culls = x }) pass.culls
    ∙ ap (λ (x : List ℕ). record r { culls = culls_of a (remains a r); breaks = x }) pass.breaks
    ∙ ap (λ (x : List ℕ). record r { culls = culls_of a (remains a r); breaks = breaks_of a (remains a r); queued = x }) pass.queued
    ∙ ap (λ (x : List ℕ). record r { culls = culls_of a (remains a r); breaks = breaks_of a (remains a r); queued = queued_of a (remains a r); freed = x }) pass.freed
    ∙ ap (λ (x : ℕ). record r { culls = culls_of a (remains a r); breaks = breaks_of a (remains a r); queued = queued_of a (remains a r); freed = freed_of a r; dead = x }) pass.dead
    ∙ ap (λ (x : ℕ). record r { culls = culls_of a (remains a r); breaks = breaks_of a (remains a r); queued = queued_of a (remains a r); freed = freed_of a r; dead = dead_of a r; kept = x }) pass.kept

made_same : (a : NamedHeap) {g g' h h' : ℕ} {ms ms' : List Placing} {ps ps' : List PinAt} → g ≡ g' → h ≡ h' → ms ≡ ms' → ps ≡ ps' → made a g h ms ps ≡ made a g' h' ms' ps'
made_same a e f m q = cc

-- the order of the names determines the record
pub pass_determined : (a : NamedHeap) (g h : ℕ) (r s : PassRecord) → IsPass a g h r → IsPass a g h s → order_of r ≡ order_of s → r ≡ s
pass_determined a g h r s one two same =
    let moves : r.moves ≡ s.moves = one.placed ∙ ap (λ (xs : List ℕ). (placement a xs).moves) same ∙ sym two.placed in
    record_made a g h r one
    ∙ made_same a (one.generation ∙ sym two.generation) (one.target ∙ sym two.target) moves (pins_one a g r.pins s.pins one.pins two.pins)
    ∙ sym (record_made a g h s two)

pub passes_determined : (a : NamedHeap) (last g : ℕ) (records others : List PassRecord) → ArePasses a last g records → ArePasses a last g others →
    map order_of records ≡ map order_of others → records ≡ others
passes_determined a last g [] others one two same = absurd one
passes_determined a last g (r ∷ rest) [] one two same = absurd two
passes_determined a last g (r ∷ []) (s ∷ []) one two same =
    (let order : order_of r ≡ order_of s = cc in
    let first = pass_determined a g (target_of g (is_raised a last g)) r s one.0 two.0 order in cc)
passes_determined a last g (r ∷ []) (s ∷ s' ∷ rest') one two same = cc
passes_determined a last g (r ∷ r' ∷ rest) (s ∷ []) one two same = cc
passes_determined a last g (r ∷ r' ∷ rest) (s ∷ s' ∷ rest') one two same =
    let order : order_of r ≡ order_of s = cc in
    let orders : map order_of (r' ∷ rest) ≡ map order_of (s' ∷ rest') = cc in
    let first = pass_determined a g (target_of g (is_raised a last g)) r s one.0 two.0 order in
    let two' : ArePasses (after_pass_of a last g r) last (g + 1) (s' ∷ rest') = subst (λ (x : PassRecord). ArePasses (after_pass_of a last g x) last (g + 1) (s' ∷ rest')) (sym first) two.2 in
    let others = passes_determined (after_pass_of a last g r) last (g + 1) (r' ∷ rest) (s' ∷ rest') one.2 two' orders in
    cc

pub collection_determined : (a : NamedHeap) (last : ℕ) (records others : List PassRecord) → IsCollection a last records → IsCollection a last others →
    map order_of records ≡ map order_of others → records ≡ others
collection_determined a last records others one two same = passes_determined (closed a) last 0 records others one.passes two.passes same
