use Rattle.std.proofs.Common.{Some, sym, ap, ◌∙◌, arith, true≢false}
use Rattle.json.proofs.Unique.Spelling.{tokens-document}
use Rattle.json_view.specs.Trees.{shown_reading}
use Rattle.json_view.proofs.Places.{reads, is_read}
use Rattle.json_view.proofs.Shown.{json_within, json_beyond, no_document, a_document, no_text}
use Rattle.json_view.proofs.document.Document.read.Goals as goal

pub returns-in_default-clause-not_json : goal.returns-in_default-clause-not_json
returns-in_default-clause-not_json c = λ _. no_text c.args.bytes.now c.in_default.ensures

pub invariant_of-result : goal.invariant_of-result
invariant_of-result c =
    let d = a_document c.in-Ok.text.now c.in-Ok-parse.ensures.ok.1 in
    record { begins = is_read c.in-Ok-parse.tape d.0 (c.in-Ok-parse.ensures.value d.0 d.1) }

pub returns-in-Ok-parse-clause-value : goal.returns-in-Ok-parse-clause-value
returns-in-Ok-parse-clause-value c =
    let text = c.in-Ok.text.now in
    let d = a_document text c.in-Ok-parse.ensures.ok.1 in
    let within = (c.is_within.ensures d.0 (c.in-Ok-parse.ensures.ok.0 ∙ tokens-document text d.0 d.1)).0 c.if-is_within.true in
    json_within c.args.bytes.now text d.0 c.in-Ok.ensures.1 c.in-Ok.ensures.0 d.1 within.0 within.1
    ∙ ap (λ o. Some (shown_reading o)) (sym (reads c.in-Ok-parse.tape d.0 (c.in-Ok-parse.ensures.value d.0 d.1)))

pub returns-in-Ok-2-clause-not_json : goal.returns-in-Ok-2-clause-not_json
returns-in-Ok-2-clause-not_json c = λ _.
    let text = c.in-Ok.text.now in
    let d = a_document text c.in-Ok-parse.ensures.ok.1 in
    json_beyond c.args.bytes.now text d.0 c.in-Ok.ensures.0 d.1
    (λ h f. true≢false (sym ((c.is_within.ensures d.0 (c.in-Ok-parse.ensures.ok.0 ∙ tokens-document text d.0 d.1)).1 (h, f)) ∙ c.if-is_within.false))

pub returns-in-Err-Invalid-clause-not_json : goal.returns-in-Err-Invalid-clause-not_json
returns-in-Err-Invalid-clause-not_json c = λ _. no_document c.args.bytes.now c.in-Ok.text.now c.in-Ok.ensures.0 (c.parse.ensures.invalid (grind arith))
