use Rattle.std.proofs.Common.{◌≡◌, ◌≤◌, ◌-◌, ◌++◌, length, take, drop, ap, sym, ◌∙◌, arith}
use Rattle.std.proofs.lemmas.List.{drop-drop}
use Rattle.heap_io.proofs.StreamLemmas.{Gave-front, take-drop_rest}
use Rattle.heap_io.proofs.memory_source.MemorySourceSource.take.Goals as goal

pub returns-clause-taken : goal.returns-clause-taken
returns-clause-taken c =
    let s = c.self.inside in
    let k = c.copy_front-k.result in
    let all = c.deref-2.result.now in
    let left = c.args.self.now.left in
    let is : take (length all - s.taken) (drop s.taken all) ≡ left =
    take-drop_rest s.taken all ∙ ap (drop s.taken) c.deref-2.ensures.value ∙ ap (λ v. v.left) c.self.view_is in
    let count = rw is at c.copy_front-k.ensures.count in
    let fits : k ≤ length left = omega (arith, count) in
    Gave-front left _ _ _ k fits
    (c.copy_front-k.ensures.buffer ∙ ap (λ l. take k l ++ drop k c.args.buf.now) is)
    (sym (drop-drop k s.taken s.bytes.items) ∙ ap (λ v. drop k v.left) c.self.view_is)
