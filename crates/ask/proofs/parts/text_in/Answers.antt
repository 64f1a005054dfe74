use Rattle.std.proofs.Common.{Some, refl, ap}
use Rattle.std.specs.Str.{is_utf8}
use Rattle.std.proofs.lemmas.Str.{IsUtf8-from_is_utf8, is_utf8-from_IsUtf8}
use Rattle.line_input.proofs.Cut.{no_true}
use Rattle.ask.proofs.parts.text_in.Goals as goal

pub returns-in-Ok : goal.returns-in-Ok
returns-in-Ok c = let p = c.in-Ok.ensures.cases in rw (is_utf8-from_IsUtf8 c.args.bytes.now p.1) (ap Some p.0)

pub returns-in-Err : goal.returns-in-Err
returns-in-Err c = let p = c.in-Err.ensures.cases in rw (no_true (is_utf8 c.args.bytes.now) (λ e. p.0 (IsUtf8-from_is_utf8 c.args.bytes.now e))) refl
