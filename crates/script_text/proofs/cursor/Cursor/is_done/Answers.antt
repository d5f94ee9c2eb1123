use Rattle.std.proofs.Common.{ap, sym, ◌∙◌, eq-eqb, length}
use Rattle.std.specs.Str.Lines.{lines}
use Rattle.std.proofs.lemmas.Bool.{eqb-true}
use Rattle.std.proofs.lemmas.List.{nil_from_length}
use Rattle.script_text.proofs.Lines.{no_lines}
use Rattle.script_text.proofs.cursor.Cursor.is_done.Goals as goal

pub returns : goal.returns
returns c =
    let bytes = c.self.inside.rest.now in
    rw (← c.self.view_is) (λ h. ap lines (nil_from_length bytes (eqb-true (length bytes) 0 (sym c.is_empty.ensures ∙ h))), λ e. c.is_empty.ensures ∙ eq-eqb (length bytes) 0 (no_lines bytes e))
