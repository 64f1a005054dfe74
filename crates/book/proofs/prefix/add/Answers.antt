use Rattle.std.proofs.Common.{◌≡◌, ℕ, List, [], ◌∷◌, ◌++◌, drop, sym, ap, subst, ◌∙◌}
use Rattle.std.specs.Prelude.{Result, Ok, Err, OnOk}
use Rattle.std.specs.Arc.{arc_value}
use Rattle.std.proofs.lemmas.List.{append-nil}
use Rattle.osv_record.specs.Advisories.{Advisory}
use Rattle.history.specs.declared.past.Past.{Past}
use Rattle.history.specs.declared.past.Past.TheVariants.{Import, Grow}
use Rattle.history.specs.Entries.{History, imports}
use Rattle.history.specs.Prefixes.{graph}
use Rattle.history.proofs.Entries.{imports-append}
use Rattle.impact_job.specs.Tables.{IsPrefixOf}
use Rattle.book.specs.declared.entry.Entry.{Entry}
use Rattle.book.specs.Entries.{past, IsWhole}
use Rattle.book.proofs.Growing.{graph-of_imports}
use Rattle.book.proofs.prefix.add.Goals as goal

-- what each pair gives where the call was answered
all_ok : {A E : Type 0} (r : Result A E) (P Q N : List Past → History → Type 0) → ((b : List Past) (h : History) → P b h → Q b h → OnOk r (N b h)) → OnOk r ((b : List Past) (h : History) → P b h → Q b h → N b h)
all_ok (Ok x) P Q N h = h
all_ok (Err e) P Q N h = tt

pub returns-in_ok-advisory-in-Import : goal.returns-in_ok-advisory-in-Import
returns-in_ok-advisory-in-Import c =
    let same : Import c.in-Import.by (arc_value c.in_ok-advisory-in-Import.advisory) ∷ [] ≡ imports (past c.args.entry.now ∷ []) =
    ap (λ (a : Advisory). Import c.in-Import.by a ∷ []) c.in_ok-advisory-in-Import.ensures ∙ ap (λ (x : Entry). imports (past x ∷ [])) (sym c.in-Import.is) in
    all_ok c.import.result (λ (b : List Past) (h : History). IsPrefixOf c.args.prefix.now b (imports h)) (λ (b : List Past) (h : History). IsWhole h c.args.entry.now)
    (λ (b : List Past) (h : History). IsPrefixOf c.import.new.self b (imports (h ++ past c.args.entry.now ∷ [])))
    (λ b h w whole.
    subst (λ (es : List Past). OnOk c.import.result (IsPrefixOf c.import.new.self b es)) (ap (λ (es : List Past). imports h ++ es) same ∙ sym (imports-append h (past c.args.entry.now ∷ [])))
    (c.import.ensures.ok b (imports h) c.in-Import.by w))

pub returns-in_ok-shared-in-Grow : goal.returns-in_ok-shared-in-Grow
returns-in_ok-shared-in-Grow c =
    let same : Grow c.in-Grow.by c.in_ok-owned-in-Grow.owned (drop c.in-Grow.from (arc_value c.in-Grow.graph)) ∷ [] ≡ imports (past c.args.entry.now ∷ []) =
    ap (λ (k : List ℕ). Grow c.in-Grow.by k (drop c.in-Grow.from (arc_value c.in-Grow.graph)) ∷ []) c.in_ok-owned-in-Grow.ensures ∙ ap (λ (x : Entry). imports (past x ∷ [])) (sym c.in-Grow.is) in
    all_ok c.grow.result (λ (b : List Past) (h : History). IsPrefixOf c.args.prefix.now b (imports h)) (λ (b : List Past) (h : History). IsWhole h c.args.entry.now)
    (λ (b : List Past) (h : History). IsPrefixOf c.grow.new.self b (imports (h ++ past c.args.entry.now ∷ [])))
    (λ b h w whole.
    let here : arc_value c.in-Grow.graph ≡ graph (h ++ Grow c.in-Grow.by c.in-Grow.key (drop c.in-Grow.from (arc_value c.in-Grow.graph)) ∷ []) c.in-Grow.key = subst (λ (x : Entry). IsWhole h x) c.in-Grow.is whole in
    let given : arc_value c.in_ok-shared-in-Grow.shared ≡ graph (imports h ++ Grow c.in-Grow.by c.in_ok-owned-in-Grow.owned (drop c.in-Grow.from (arc_value c.in-Grow.graph)) ∷ []) c.in_ok-owned-in-Grow.owned =
    c.in_ok-shared-in-Grow.ensures ∙ here ∙ sym (graph-of_imports h c.in-Grow.by c.in-Grow.key (drop c.in-Grow.from (arc_value c.in-Grow.graph)) c.in-Grow.key)
    ∙ ap (λ (k : List ℕ). graph (imports h ++ Grow c.in-Grow.by k (drop c.in-Grow.from (arc_value c.in-Grow.graph)) ∷ []) k) (sym c.in_ok-owned-in-Grow.ensures) in
    subst (λ (es : List Past). OnOk c.grow.result (IsPrefixOf c.grow.new.self b es)) (ap (λ (es : List Past). imports h ++ es) same ∙ sym (imports-append h (past c.args.entry.now ∷ [])))
    (c.grow.ensures.ok b (imports h) c.in-Grow.by (drop c.in-Grow.from (arc_value c.in-Grow.graph)) w given))

pub returns-in-Publish : goal.returns-in-Publish
returns-in-Publish c = λ b h w whole.
    let none : imports (past c.args.entry.now ∷ []) ≡ [] = ap (λ (x : Entry). imports (past x ∷ [])) c.in-Publish.is in
    subst (λ (es : List Past). IsPrefixOf c.args.prefix.now b es)
    (sym (imports-append h (past c.args.entry.now ∷ []) ∙ ap (λ (es : List Past). imports h ++ es) none ∙ append-nil (imports h))) w
