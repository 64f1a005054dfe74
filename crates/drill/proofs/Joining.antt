-- Rows that a graph has beyond another.
use Rattle.std.proofs.Common.{◌≡◌, Bool, true, false, cond, List, [], ◌∷◌, ◌++◌, length, drop, refl, sym, ap, ◌∙◌}
use Rattle.std.proofs.lemmas.List.{append-nil, append_assoc}
use Rattle.std.proofs.Math.Seq.{drop-append_seam}
use Rattle.osv_prim.specs.declared.oid.CommitRow.{CommitRow}
use Rattle.osv_prim.specs.Graphs.{has, with_row, joined}

-- the new rows among those that are joined, which come to the same
record NewRows (g rows : List CommitRow) : Type 0 where
  more : List CommitRow
  behind : joined g rows ≡ g ++ more
  again : joined g more ≡ g ++ more

new_row : (b : Bool) (g : List CommitRow) (r : CommitRow) (rows : List CommitRow) → has g r.oid ≡ b → NewRows (cond b g (g ++ r ∷ [])) rows → NewRows g (r ∷ rows)
new_row true g r rows is n = record { more = n.more; behind = ap (λ (b : Bool). joined (cond b g (g ++ r ∷ [])) rows) is ∙ n.behind; again = n.again }
new_row false g r rows is n =
    let one : g ++ r ∷ n.more ≡ (g ++ r ∷ []) ++ n.more = sym (append_assoc g (r ∷ []) n.more) in
    record {
      more = r ∷ n.more;
      behind = ap (λ (b : Bool). joined (cond b g (g ++ r ∷ [])) rows) is ∙ n.behind ∙ sym one;
      again = ap (λ (b : Bool). joined (cond b g (g ++ r ∷ [])) n.more) is ∙ n.again ∙ sym one;
    }

new_rows : (rows g : List CommitRow) → NewRows g rows
new_rows [] g = record { more = []; behind = sym (append-nil g); again = sym (append-nil g) }
new_rows (r ∷ rows) g = new_row (has g r.oid) g r rows refl (new_rows rows (with_row g r))

-- what a graph has beyond the one that it goes on from brings it about again
pub joined-again : (g rows : List CommitRow) → joined g (drop (length g) (joined g rows)) ≡ joined g rows
joined-again g rows =
    let n = new_rows rows g in
    ap (λ (xs : List CommitRow). joined g (drop (length g) xs)) n.behind
    ∙ ap (λ (xs : List CommitRow). joined g xs) (drop-append_seam g n.more) ∙ n.again ∙ sym n.behind
