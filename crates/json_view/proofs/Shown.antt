-- What a tree shows beside what `serde_json` reads.
use Rattle.std.proofs.Common.{◌≡◌, ℕ, ◌≤◌, Bool, true, false, ◌&&◌, cond, List, [], ◌∷◌, Option, Some, None, option_map, option_and_then, is_some, bytes_eq, true≢false, refl, sym, ap, subst, ◌∙◌, arith, append-nil}
use Rattle.std.specs.Prelude.{IsSome}
use Rattle.std.specs.Str.{IsUtf8, is_utf8}
use Rattle.std.proofs.lemmas.Str.{IsUtf8-from_is_utf8, is_utf8-from_IsUtf8}
use Rattle.std.specs.Cmp.Lexicographic.{same_text}
use Rattle.std.proofs.lemmas.Slice.Eq.{bytes_eq-Decides}
use Rattle.json.specs.Json as tree
use Rattle.json.specs.Token.{Token}
use Rattle.json.specs.Lex.{tokens}
use Rattle.json.specs.Tree.{json_tokens, depth}
use Rattle.json.proofs.Found.{one_reading, not_found, Some_inj}
use Rattle.json.proofs.Nesting.{value-depth}
use Rattle.json.proofs.Printed.Trees.{value-json_tokens}
use Rattle.json.proofs.Unique.Spelling.{value-json_tokens_back, tokens-document}
use Rattle.json.specs.Find as find
use Rattle.serde_json.specs.Data.{Num, Data, null, boolean, number, string, array, object, Items, item, Members, no_members, put}
use Rattle.serde_json.specs.Find.{get, get_member, as_object}
use Rattle.serde_json.specs.Read.{number_of, of_json, of_items, of_members, max_depth, read}
use Rattle.serde_json.proofs.Views.{get_member-put, get_member-put_other}
use Rattle.json_view.specs.Json.{json, present, named}
use Rattle.json_view.specs.Trees.{shown, shown_number, shown_items, shown_members, fits, items_fit, members_fit, tree_of}

-- ---- the whole value

number_shown : (o : Option Num) → option_map number o ≡ cond (is_some o) (Some (shown_number o)) None
number_shown None = refl
number_shown (Some n) = refl

mapped : {A B : Type 0} (f : A → B) (b : Bool) (a : A) (o : Option A) → o ≡ cond b (Some a) None → option_map f o ≡ cond b (Some (f a)) None
mapped f true a o e = ap (option_map f) e
mapped f false a o e = ap (option_map f) e

item_fits : (b : Bool) (d : Data) (o : Option Data) → o ≡ cond b (Some d) None → (c : Bool) (ds : Items) (os : Option Items) → os ≡ cond c (Some ds) None
    → option_and_then (λ x. option_map (item x) os) o ≡ cond (b && c) (Some (item d ds)) None
item_fits true d o e c ds os es = ap (option_and_then (λ x. option_map (item x) os)) e ∙ mapped (item d) c ds os es
item_fits false d o e c ds os es = ap (option_and_then (λ x. option_map (item x) os)) e

member_fits : (b : Bool) (d : Data) (o : Option Data) → o ≡ cond b (Some d) None → (c : Bool) (ms : Data → Members) (os : Data → Option Members) → ((x : Data) → os x ≡ cond c (Some (ms x)) None)
    → option_and_then os o ≡ cond (b && c) (Some (ms d)) None
member_fits true d o e c ms os es = ap (option_and_then os) e ∙ es d
member_fits false d o e c ms os es = ap (option_and_then os) e

mutual
  pub of_json-fits : (j : tree.Json) → of_json j ≡ cond (fits j) (Some (shown j)) None
  of_json-fits tree.null = refl
  of_json-fits (tree.boolean b) = refl
  of_json-fits (tree.number s) = number_shown (number_of s)
  of_json-fits (tree.string s) = refl
  of_json-fits (tree.array js) = mapped array (items_fit js) (shown_items js) _ (of_items-fit js)
  of_json-fits (tree.object ms) = mapped object (members_fit ms) (shown_members ms no_members) _ (of_members-fit ms no_members)

  of_items-fit : (js : tree.Items) → of_items js ≡ cond (items_fit js) (Some (shown_items js)) None
  of_items-fit tree.no_items = refl
  of_items-fit (tree.item j js) = item_fits (fits j) (shown j) (of_json j) (of_json-fits j) (items_fit js) (shown_items js) (of_items js) (of_items-fit js)

  of_members-fit : (ms : tree.Members) (found : Members) → of_members ms found ≡ cond (members_fit ms) (Some (shown_members ms found)) None
  of_members-fit tree.no_members found = refl
  of_members-fit (tree.member k j ms) found = member_fits (fits j) (shown j) (of_json j) (of_json-fits j) (members_fit ms) (λ d. shown_members ms (put k d found)) (λ d. of_members ms (put k d found)) (λ d. of_members-fit ms (put k d found))

-- what a text is read as, by its tree
read_by : (text : List ℕ) (o : Option tree.Json) → tree_of text ≡ o → read text ≡ option_and_then of_json o
unfolding tree_of
read_by text o e = ap (option_and_then of_json) e

-- ---- bytes

pub json_is : (bytes text : List ℕ) (j : tree.Json) → IsUtf8 bytes → text ≡ bytes → tree_of text ≡ Some j → fits j ≡ true → json bytes ≡ Some (shown j)
unfolding json
json_is bytes text j u same e fit =
    rw (is_utf8-from_IsUtf8 bytes u) (sym (ap read same) ∙ read_by text (Some j) e ∙ of_json-fits j ∙ ap (λ (b : Bool). cond b (Some (shown j)) None) fit)

none_if : (b : Bool) (o : Option Data) → o ≡ None → cond b o None ≡ None
none_if true o e = e
none_if false o e = refl

pub no_json : (bytes : List ℕ) → read bytes ≡ None → json bytes ≡ None
unfolding json
no_json bytes e = none_if (is_utf8 bytes) (read bytes) e

pub no_tree : (bytes text : List ℕ) → text ≡ bytes → tree_of text ≡ None → json bytes ≡ None
no_tree bytes text same e = no_json bytes (sym (ap read same) ∙ read_by text None e)

pub no_number : (bytes text : List ℕ) (j : tree.Json) → text ≡ bytes → tree_of text ≡ Some j → fits j ≡ false → json bytes ≡ None
no_number bytes text j same e fit = no_json bytes (sym (ap read same) ∙ read_by text (Some j) e ∙ of_json-fits j ∙ ap (λ (b : Bool). cond b (Some (shown j)) None) fit)

by_test : (b : Bool) → (b ≡ true → ⊥) → b ≡ false
by_test true h = absurd (h refl)
by_test false h = refl

no_utf8 : (b : Bool) (o : Option Data) → (b ≡ true → ⊥) → cond b o None ≡ None
no_utf8 true o h = absurd (h refl)
no_utf8 false o h = refl

pub no_text : (bytes : List ℕ) → (IsUtf8 bytes → ⊥) → json bytes ≡ None
unfolding json
no_text bytes h = no_utf8 (is_utf8 bytes) (read bytes) (λ e. h (IsUtf8-from_is_utf8 bytes e))

-- ---- a text that is JSON, by its depth and its numbers

last : (o : Option (tree.Json × List Token)) (j : tree.Json) → option_and_then (λ p. tree.if_last p.0 p.1) o ≡ Some j → o ≡ Some (j, [])
last None j e = not_found j e
last (Some (i, [])) j e = ap (λ x. Some (x, [])) (Some_inj i j e)
last (Some (i, t ∷ ts)) j e = not_found j e

same_value : (d : ℕ) (ts : List Token) (j : tree.Json) → ts ≡ json_tokens j → depth j ≤ d → tree.value d ts ≡ Some (j, [])
same_value d ts j e h = ap (tree.value d) (e ∙ sym (append-nil (json_tokens j))) ∙ value-json_tokens j d [] h

pub json_within : (bytes text : List ℕ) (j : tree.Json) → IsUtf8 bytes → text ≡ bytes → tree.document text ≡ Some j → depth j ≤ max_depth → fits j ≡ true → json bytes ≡ Some (shown j)
unfolding tree_of
json_within bytes text j u same e h fit =
    json_is bytes text j u same (ap (option_and_then (λ p. tree.if_last p.0 p.1)) (same_value max_depth (tokens text) j (tokens-document text j e) h)) fit

beyond : (bytes text : List ℕ) (j : tree.Json) (o : Option tree.Json) → text ≡ bytes → tree.document text ≡ Some j → tree_of text ≡ o → (depth j ≤ max_depth → fits j ≡ true → ⊥) → json bytes ≡ None
unfolding tree_of
beyond bytes text j None same e is never = no_tree bytes text same is
beyond bytes text j (Some i) same e is never =
    let read = last (tree.value max_depth (tokens text)) i is in
    let one : i ≡ j = ap (λ p. p.0) (Some_inj _ _ (one_reading max_depth 128 (tokens text) (i, []) (j, []) read (last (tree.value 128 (tokens text)) j e))) in
    no_number bytes text i same is (by_test (fits i) (λ f. never (subst (λ k. depth k ≤ max_depth) one (value-depth max_depth (tokens text) [] i read)) (sym (ap fits one) ∙ f)))

pub json_beyond : (bytes text : List ℕ) (j : tree.Json) → text ≡ bytes → tree.document text ≡ Some j → (depth j ≤ max_depth → fits j ≡ true → ⊥) → json bytes ≡ None
json_beyond bytes text j same e never = beyond bytes text j (tree_of text) same e refl never

not_document : (bytes text : List ℕ) (o : Option tree.Json) → text ≡ bytes → tree.document text ≡ None → tree_of text ≡ o → json bytes ≡ None
unfolding tree_of
not_document bytes text None same e is = no_tree bytes text same is
not_document bytes text (Some i) same e is =
    let read = last (tree.value max_depth (tokens text)) i is in
    let deep = value-depth max_depth (tokens text) [] i read in
    let all : tokens text ≡ json_tokens i = value-json_tokens_back max_depth (tokens text) [] i read ∙ append-nil (json_tokens i) in
    not_found i (sym e ∙ ap (option_and_then (λ p. tree.if_last p.0 p.1)) (same_value 128 (tokens text) i all (omega (arith, deep))))

pub no_document : (bytes text : List ℕ) → text ≡ bytes → tree.document text ≡ None → json bytes ≡ None
no_document bytes text same e = not_document bytes text (tree_of text) same e refl

the_tree : (text : List ℕ) (o : Option tree.Json) → tree.document text ≡ o → IsSome o → (j : tree.Json) × (tree.document text ≡ Some j)
the_tree text None e h = absurd cc
the_tree text (Some j) e h = (j, e)

pub a_document : (text : List ℕ) → IsSome (tree.document text) → (j : tree.Json) × (tree.document text ≡ Some j)
a_document text h = the_tree text (tree.document text) refl h

-- ---- a look-up

abbrev or_else : Option Data → Option Data → Option Data
or_else None earlier = earlier
or_else (Some d) earlier = Some d

last_of : (o : Option tree.Json) (j : tree.Json) (earlier : Option Data) → or_else (option_map shown o) (Some (shown j)) ≡ or_else (option_map shown (find.later_or o (Some j))) earlier
last_of None j earlier = refl
last_of (Some x) j earlier = refl

no_later : (o : Option tree.Json) (earlier : Option Data) → or_else (option_map shown o) earlier ≡ or_else (option_map shown (find.later_or o None)) earlier
no_later None earlier = refl
no_later (Some x) earlier = refl

one_put : (name k : List ℕ) (j : tree.Json) (o : Option tree.Json) (found : Members) (b : Bool) → bytes_eq k name ≡ b
    → or_else (option_map shown o) (get_member name (put k (shown j) found)) ≡ or_else (option_map shown (find.later_or o (cond b (Some j) None))) (get_member name found)
one_put name k j o found true e =
    let same : k ≡ name = same_text k name (sym e) in
    let here : get_member name (put k (shown j) found) ≡ Some (shown j) = subst (λ (n : List ℕ). get_member n (put k (shown j) found) ≡ Some (shown j)) same (get_member-put k (shown j) found) in
    ap (or_else (option_map shown o)) here ∙ last_of o j (get_member name found)
one_put name k j o found false e =
    ap (or_else (option_map shown o)) (get_member-put_other name k (shown j) found (λ h. true≢false (sym ((bytes_eq-Decides k name).1 (sym h)) ∙ e))) ∙ no_later o (get_member name found)

get-members : (name : List ℕ) (ms : tree.Members) (found : Members) → get_member name (shown_members ms found) ≡ or_else (option_map shown (find.get_member name ms)) (get_member name found)
get-members name tree.no_members found = refl
get-members name (tree.member k j ms) found = get-members name ms (put k (shown j) found) ∙ one_put name k j (find.get_member name ms) found (bytes_eq k name) refl

or_none : (o : Option Data) → or_else o None ≡ o
or_none None = refl
or_none (Some d) = refl

number_has_none : (name : List ℕ) (o : Option Num) → get name (shown_number o) ≡ None
number_has_none name None = refl
number_has_none name (Some n) = refl

pub get-shown : (name : List ℕ) (j : tree.Json) → get name (shown j) ≡ option_map shown (find.get name j)
get-shown name tree.null = refl
get-shown name (tree.boolean b) = refl
get-shown name (tree.number s) = number_has_none name (number_of s)
get-shown name (tree.string s) = refl
get-shown name (tree.array js) = refl
get-shown name (tree.object ms) = get-members name ms no_members ∙ or_none (option_map shown (find.get_member name ms))

number_present : (o : Option Num) → present (shown_number o) ≡ Some (shown_number o)
number_present None = refl
number_present (Some n) = refl

pub is_present : (j : tree.Json) → find.is_null j ≡ false → present (shown j) ≡ Some (shown j)
is_present tree.null e = absurd cc
is_present (tree.boolean b) e = refl
is_present (tree.number s) e = number_present (number_of s)
is_present (tree.string s) e = refl
is_present (tree.array js) e = refl
is_present (tree.object ms) e = refl

pub is_absent : (j : tree.Json) → find.is_null j ≡ true → present (shown j) ≡ None
is_absent tree.null e = refl
is_absent (tree.boolean b) e = absurd cc
is_absent (tree.number s) e = absurd cc
is_absent (tree.string s) e = absurd cc
is_absent (tree.array js) e = absurd cc
is_absent (tree.object ms) e = absurd cc

-- what is named, by what the tree has
pub named_by : (name : List ℕ) (j : tree.Json) (o : Option tree.Json) → o ≡ find.get name j → option_and_then present (option_map shown o) ≡ named name (shown j)
named_by name j o e = ap (λ (x : Option tree.Json). option_and_then present (option_map shown x)) e ∙ ap (option_and_then present) (sym (get-shown name j))

-- ---- a member

pub no_member : (name : List ℕ) (d : Data) → as_object d ≡ None → named name d ≡ None
no_member name null e = refl
no_member name (boolean b) e = refl
no_member name (number n) e = refl
no_member name (string s) e = refl
no_member name (array ds) e = refl
no_member name (object ms) e = absurd cc

pub named_none : (name : List ℕ) (ms : tree.Members) → find.get_member name ms ≡ None → named name (shown (tree.object ms)) ≡ None
named_none name ms e = sym (named_by name (tree.object ms) None (sym e))

pub named_null : (name : List ℕ) (ms : tree.Members) (j : tree.Json) → find.get_member name ms ≡ Some j → j ≡ tree.null → named name (shown (tree.object ms)) ≡ None
named_null name ms j e null_is = sym (named_by name (tree.object ms) (Some j) (sym e)) ∙ is_absent j (ap find.is_null null_is)

pub named_some : (name : List ℕ) (ms : tree.Members) (j : tree.Json) → find.get_member name ms ≡ Some j → find.is_null j ≡ false → named name (shown (tree.object ms)) ≡ Some (shown j)
named_some name ms j e there = sym (named_by name (tree.object ms) (Some j) (sym e)) ∙ is_present j there
