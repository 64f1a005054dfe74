-- Prefixes that go on, and their plans.
use Rattle.std.proofs.Common.{◌≡◌, ℕ, ◌+◌, List, [], ◌∷◌, ◌++◌, length, map, length-append, sym, ap, subst, ◌∙◌}
use Rattle.std.proofs.lemmas.List.{append-nil}
use Rattle.osv_prim.specs.declared.oid.CommitRow.{CommitRow}
use Rattle.osv_record.specs.Advisories.{Advisory}
use Rattle.osv_record.specs.Imports.{records_from}
use Rattle.osv_record.specs.Imports as counting
use Rattle.history.specs.declared.past.Past.{Past}
use Rattle.history.specs.declared.past.Past.TheVariants.{Import, Grow}
use Rattle.history.specs.Prefixes.{advisories, records, graphs}
use Rattle.history.proofs.Prefixes.{advisories-append, graphs-go_on, records-of_parts}
use Rattle.history.proofs.Records.{records-again, records-more}
use Rattle.evaluate.proofs.Ascending.{is_sorted, records-ascending}
use Rattle.impact_job.specs.Order.{Ascend}

pub advisories-push : (came : List Past) (by : ℕ) (r : Advisory) → advisories (came ++ Import by r ∷ []) ≡ advisories came ++ r ∷ []
advisories-push came by r = advisories-append came (Import by r ∷ [])

pub advisories-stay : (came : List Past) (by : ℕ) (key : List ℕ) (rows : List CommitRow) → advisories (came ++ Grow by key rows ∷ []) ≡ advisories came
advisories-stay came by key rows = advisories-append came (Grow by key rows ∷ []) ∙ append-nil (advisories came)

pub graphs-push : (p : List Past) (by : ℕ) (r : Advisory) → graphs (p ++ Import by r ∷ []) ≡ graphs p
graphs-push p by r = graphs-go_on p (Import by r ∷ [])

pub length-push : (p : List Past) (e : Past) → length (p ++ e ∷ []) ≡ length p + 1
length-push p e = length-append p (e ∷ [])

-- those that count ascend
pub kept-ascend : (p : List Past) → Ascend (records p)
kept-ascend p = is_sorted (records p) (records-ascending [] (advisories p) tt)

-- the merge of what a base keeps and of the last of each id that came is what all of them keep
pub planned : (b came p : List Past) (base added changed new : List Advisory) → p ≡ b ++ came → base ≡ records b → added ≡ advisories came → changed ≡ counting.records added
    → (Ascend base → Ascend changed → new ≡ records_from base changed) → new ≡ records p
planned b came p base added changed new whole kept came_is last merge =
    let later : changed ≡ records came = last ∙ ap (λ (xs : List Advisory). counting.records xs) came_is in
    merge (subst (λ (xs : List Advisory). Ascend xs) (sym kept) (kept-ascend b)) (subst (λ (xs : List Advisory). Ascend xs) (sym later) (kept-ascend came))
    ∙ ap (λ (xs : List Advisory). records_from xs changed) kept ∙ ap (λ (xs : List Advisory). records_from (records b) xs) later
    ∙ ap (λ (xs : List Advisory). records_from xs (records came)) (sym (records-again (advisories b))) ∙ sym (records-more (records b) (records came))
    ∙ sym (records-of_parts b came) ∙ ap (λ (q : List Past). records q) (sym whole)

-- the same of lists that a slice is
pub merge-at : {A B : Type 0} (see : A → Advisory) (at : B → Advisory) (xs base : List A) (ys changed : List B) (new : List Advisory) → xs ≡ base → ys ≡ changed
    → (Ascend (map see xs) → Ascend (map at ys) → new ≡ records_from (map see xs) (map at ys)) → Ascend (map see base) → Ascend (map at changed) → new ≡ records_from (map see base) (map at changed)
merge-at {A = A} {B = B} see at xs base ys changed new e f m up later =
    m (subst (λ (us : List A). Ascend (map see us)) (sym e) up) (subst (λ (us : List B). Ascend (map at us)) (sym f) later)
    ∙ ap (λ (us : List A). records_from (map see us) (map at ys)) e ∙ ap (λ (us : List B). records_from (map see base) (map at us)) f

pub latest-at : {A : Type 0} (see : A → Advisory) (xs added : List A) (changed : List Advisory) → xs ≡ added → changed ≡ counting.records (map see xs) → changed ≡ counting.records (map see added)
latest-at {A = A} see xs added changed e is = is ∙ ap (λ (us : List A). counting.records (map see us)) e
