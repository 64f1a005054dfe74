use Rattle.std.proofs.Common.{◌≡◌, List, map, ap, ap₂, ◌∙◌, String, Global}
use Rattle.std.specs.Prelude.{string_bytes, fold}
use Rattle.clap.specs.Words.{Text, app_of, found_of, rows_of, is_simple, is_simple_and_free, kind_of}
use Rattle.command_line.specs.Grammar.{app, with_option}
use Rattle.command_line.proofs.Taken.{free, refused, simple, taken}
use Rattle.command_line.proofs.matched.given.Goals as goal

texts : List (String Global) → List Text
texts = map (λ (w : String Global). string_bytes w)

pub returns-in-Ok : goal.returns-in-Ok
unfolding texts
returns-in-Ok c =
    let same : app_of c.in_ok-app.app ≡ app c.args.name = c.in_ok-app.ensures ∙ ap₂ (fold with_option) c.in_ok-bare.ensures c.options_of.ensures in
    taken c.args.name (texts c.args.words.now) (app_of c.in_ok-app.app) (rows_of (found_of c.in-Ok.matches)) same
    (c.in-Ok.ensures.kinds (ap is_simple_and_free same ∙ free c.args.name))
    (c.in-Ok.ensures.matches (ap is_simple same ∙ simple c.args.name)).0

pub returns : goal.returns
unfolding texts
returns c =
    let same : app_of c.in_ok-app.app ≡ app c.args.name = c.in_ok-app.ensures ∙ ap₂ (fold with_option) c.in_ok-bare.ensures c.options_of.ensures in
    refused c.args.name (texts c.args.words.now) (app_of c.in_ok-app.app) (kind_of c.in-Err.error) same
    (λ e. c.in_default.not-OutOfMemory (c.kind.ensures ∙ e))
    (c.in-Err.ensures.kinds (ap is_simple_and_free same ∙ free c.args.name))
