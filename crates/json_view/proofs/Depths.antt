-- A walk over the tokens of a value tells how deep it nests, and whether its numbers have values.
use Rattle.std.proofs.Common.{◌≡◌, ℕ, suc, ◌+◌, ◌-◌, ◌≤◌, Bool, true, false, cond, List, [], ◌∷◌, ◌++◌, Option, Some, None, is_some, nat_lt, refl, sym, ap, ◌∙◌, arith, append_assoc, append-nil, true≢false}
use Rattle.std.proofs.lemmas.Bool.{and_from, and_parts}
use Rattle.std.proofs.lemmas.Bool.Decides.{nat_tests}
use Rattle.json.specs.Token.{Token}
use Rattle.json.specs.Json as tree
use Rattle.json.specs.Json.{Json, Items, Members}
use Rattle.json.specs.Tree.{json_tokens, items_tokens, members_tokens, depth, items_depth, members_depth}
use Rattle.serde_json.specs.Read.{number_of, max_depth}
use Rattle.json_view.specs.Trees.{fits, items_fit, members_fit, depth_after}

abbrev on_some : Option ℕ → (ℕ → Bool) → Bool
on_some None f = false
on_some (Some d) f = f d

-- each token may stand where it does, from that depth on
abbrev pub suits : ℕ → List Token → Bool
suits d [] = true
suits d (t ∷ ts) = on_some (depth_after d t) (λ e. suits e ts)

pub suits-stop : (d : ℕ) (t : Token) (ts : List Token) → depth_after d t ≡ None → suits d (t ∷ ts) ≡ false
suits-stop d t ts e = ap (λ o. on_some o (λ x. suits x ts)) e

pub suits-step : (d e : ℕ) (t : Token) (ts : List Token) → depth_after d t ≡ Some e → suits d (t ∷ ts) ≡ suits e ts
suits-step d e t ts is = ap (λ o. on_some o (λ x. suits x ts)) is

passed : (b : Bool) (d : ℕ) (f : ℕ → Bool) → on_some (cond b (Some d) None) f ≡ true → (b ≡ true) × (f d ≡ true)
passed true d f e = (refl, e)
passed false d f e = absurd (true≢false (sym e))

passes : (b : Bool) (d : ℕ) (f : ℕ → Bool) → b ≡ true → f d ≡ true → on_some (cond b (Some d) None) f ≡ true
passes true d f e h = h
passes false d f e h = absurd (true≢false (sym e))

below : (d : ℕ) → nat_lt d max_depth ≡ true → d + 1 ≤ max_depth
below d e = grind (arith, nat_tests)

is_below : (d : ℕ) → d + 1 ≤ max_depth → nat_lt d max_depth ≡ true
is_below d h = grind (arith, nat_tests)

abbrev Good : ℕ → ℕ → Bool → Bool → Type 0
Good d nests fit rest = (d + nests ≤ max_depth) × (fit ≡ true) × (rest ≡ true)

mutual
  good_value : (j : Json) (d : ℕ) (ts : List Token) → d ≤ max_depth → suits d (json_tokens j ++ ts) ≡ true → Good d (depth j) (fits j) (suits d ts)
  good_value tree.null d ts h e = (omega arith, refl, e)
  good_value (tree.boolean b) d ts h e = (omega arith, refl, e)
  good_value (tree.number s) d ts h e = let p = passed (is_some (number_of s)) d (λ x. suits x ts) e in (omega arith, p.0, p.1)
  good_value (tree.string s) d ts h e = (omega arith, refl, e)
  good_value (tree.array js) d ts h e =
      let p = passed (nat_lt d max_depth) (suc d) (λ x. suits x (items_tokens js ++ ts)) e in
      let g = good_items js d ts (below d p.0) p.1 in
      (omega (arith, g.0), g.1, g.2)
  good_value (tree.object ms) d ts h e =
      let p = passed (nat_lt d max_depth) (suc d) (λ x. suits x (members_tokens ms ++ ts)) e in
      let g = good_members ms d ts (below d p.0) p.1 in
      (omega (arith, g.0), g.1, g.2)

  good_items : (js : Items) (d : ℕ) (ts : List Token) → d + 1 ≤ max_depth → suits (suc d) (items_tokens js ++ ts) ≡ true → Good (d + 1) (items_depth js) (items_fit js) (suits d ts)
  good_items tree.no_items d ts h e = let back : suc d - 1 ≡ d = omega arith in (omega arith, refl, ap (λ x. suits x ts) (sym back) ∙ e)
  good_items (tree.item j js) d ts h e =
      let first = good_value j (suc d) (items_tokens js ++ ts) (omega (arith, h)) (ap (suits (suc d)) (sym (append_assoc (json_tokens j) (items_tokens js) ts)) ∙ e) in
      let more = good_items js d ts h first.2 in
      (omega (arith, first.0, more.0), and_from (fits j) (items_fit js) first.1 more.1, more.2)

  good_members : (ms : Members) (d : ℕ) (ts : List Token) → d + 1 ≤ max_depth → suits (suc d) (members_tokens ms ++ ts) ≡ true → Good (d + 1) (members_depth ms) (members_fit ms) (suits d ts)
  good_members tree.no_members d ts h e = let back : suc d - 1 ≡ d = omega arith in (omega arith, refl, ap (λ x. suits x ts) (sym back) ∙ e)
  good_members (tree.member k j ms) d ts h e =
      let first = good_value j (suc d) (members_tokens ms ++ ts) (omega (arith, h)) (ap (suits (suc d)) (sym (append_assoc (json_tokens j) (members_tokens ms) ts)) ∙ e) in
      let more = good_members ms d ts h first.2 in
      (omega (arith, first.0, more.0), and_from (fits j) (members_fit ms) first.1 more.1, more.2)

mutual
  value_suits : (j : Json) (d : ℕ) (ts : List Token) → d + depth j ≤ max_depth → fits j ≡ true → suits d ts ≡ true → suits d (json_tokens j ++ ts) ≡ true
  value_suits tree.null d ts h f e = e
  value_suits (tree.boolean b) d ts h f e = e
  value_suits (tree.number s) d ts h f e = passes (is_some (number_of s)) d (λ x. suits x ts) f e
  value_suits (tree.string s) d ts h f e = e
  value_suits (tree.array js) d ts h f e =
      passes (nat_lt d max_depth) (suc d) (λ x. suits x (items_tokens js ++ ts)) (is_below d (omega (arith, h))) (items_suit js d ts (omega (arith, h)) f e)
  value_suits (tree.object ms) d ts h f e =
      passes (nat_lt d max_depth) (suc d) (λ x. suits x (members_tokens ms ++ ts)) (is_below d (omega (arith, h))) (members_suit ms d ts (omega (arith, h)) f e)

  items_suit : (js : Items) (d : ℕ) (ts : List Token) → d + 1 + items_depth js ≤ max_depth → items_fit js ≡ true → suits d ts ≡ true → suits (suc d) (items_tokens js ++ ts) ≡ true
  items_suit tree.no_items d ts h f e = let back : suc d - 1 ≡ d = omega arith in ap (λ x. suits x ts) back ∙ e
  items_suit (tree.item j js) d ts h f e =
      let p = and_parts (fits j) (items_fit js) f in
      ap (suits (suc d)) (append_assoc (json_tokens j) (items_tokens js) ts)
      ∙ value_suits j (suc d) (items_tokens js ++ ts) (omega (arith, h)) p.0 (items_suit js d ts (omega (arith, h)) p.1 e)

  members_suit : (ms : Members) (d : ℕ) (ts : List Token) → d + 1 + members_depth ms ≤ max_depth → members_fit ms ≡ true → suits d ts ≡ true → suits (suc d) (members_tokens ms ++ ts) ≡ true
  members_suit tree.no_members d ts h f e = let back : suc d - 1 ≡ d = omega arith in ap (λ x. suits x ts) back ∙ e
  members_suit (tree.member k j ms) d ts h f e =
      let p = and_parts (fits j) (members_fit ms) f in
      ap (suits (suc d)) (append_assoc (json_tokens j) (members_tokens ms) ts)
      ∙ value_suits j (suc d) (members_tokens ms ++ ts) (omega (arith, h)) p.0 (members_suit ms d ts (omega (arith, h)) p.1 e)

-- the whole value, from depth 0
pub within_from_suits : (ts : List Token) (j : Json) → ts ≡ json_tokens j → suits 0 ts ≡ true → (depth j ≤ max_depth) × (fits j ≡ true)
within_from_suits ts j same e =
    let g = good_value j 0 [] (omega arith) (ap (suits 0) (sym (same ∙ sym (append-nil (json_tokens j)))) ∙ e) in
    (omega (arith, g.0), g.1)

pub suits_from_within : (ts : List Token) (j : Json) → ts ≡ json_tokens j → depth j ≤ max_depth → fits j ≡ true → suits 0 ts ≡ true
suits_from_within ts j same h f = ap (suits 0) (same ∙ sym (append-nil (json_tokens j))) ∙ value_suits j 0 [] (omega (arith, h)) f refl
