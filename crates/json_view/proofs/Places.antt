-- What stands at a place of a text that was read.
use Rattle.std.proofs.Common.{◌≡◌, ℕ, ◌+◌, ◌<◌, ◌≤◌, true, false, List, [], ◌∷◌, ◌++◌, map, length, drop, get_or, Option, Some, None, option_map, is_some, refl, sym, ap, ◌∙◌, subst, arith, append_assoc, length-append, true≢false, ◌⊎◌, ⊎_elim}
use Rattle.std.specs.Prelude.{⊤}
use Rattle.std.specs.Borrow.{Bor}
use Rattle.std.proofs.lemmas.List.{drop_more, get_or-map, get_or_default, length-map}
use Rattle.json.specs.Token.{Token, begin_object, begin_array, end_array}
use Rattle.json.specs.Json as tree
use Rattle.json.specs.Json.{Json, Items, Members, parse_map, after_end_array, value}
use Rattle.json.specs.Tape.{node_token, Passes, LinkAt, Linked}
use Rattle.json.specs.Tree.{json_tokens, items_tokens, members_tokens, depth, items_depth, members_depth}
use Rattle.json.specs.Find.{BeginsWith, InItems, InMembers, is_null}
use Rattle.json.specs.declared.tape.Node.{Node}
use Rattle.json.specs.declared.tape.Node.TheVariants.{Object, EndObject, Array, EndArray, Key, String, Number, Bool, Null}
use Rattle.json.proofs.Grammar.{value_is, left_some, closed_array}
use Rattle.json.proofs.Found.{one_reading, not_found, Some_inj, IsKey, opened, items_close, items_go_on}
use Rattle.json.proofs.Printed.Trees.{value-json_tokens}
use Rattle.json.proofs.Unique.Spelling.{value-json_tokens_back}
use Rattle.serde_json.specs.Data.{Num}
use Rattle.serde_json.specs.Find.{as_str, as_object}
use Rattle.serde_json.specs.Read.{number_of}
use Rattle.json_view.specs.Json.{as_list}
use Rattle.json_view.specs.Trees.{shown, shown_number, reading, shown_reading}

-- ---- a reading, at any depth

mutual
  depth_within : (j : Json) → depth j ≤ length (json_tokens j)
  depth_within tree.null = omega arith
  depth_within (tree.boolean b) = omega arith
  depth_within (tree.number s) = omega arith
  depth_within (tree.string s) = omega arith
  depth_within (tree.array js) = omega (arith, items_within js)
  depth_within (tree.object ms) = omega (arith, members_within ms)

  items_within : (js : Items) → items_depth js ≤ length (items_tokens js)
  items_within tree.no_items = omega arith
  items_within (tree.item j js) = omega (arith, depth_within j, items_within js, length-append (json_tokens j) (items_tokens js))

  members_within : (ms : Members) → members_depth ms ≤ length (members_tokens ms)
  members_within tree.no_members = omega arith
  members_within (tree.member k j ms) = omega (arith, depth_within j, members_within ms, length-append (json_tokens j) (members_tokens ms))

pub reads : (ts : List Token) (j : Json) → BeginsWith ts j → reading ts ≡ Some j
reads ts j (d, r, e) =
    let same : ts ≡ json_tokens j ++ r = value-json_tokens_back d ts r j e in
    let enough : depth j ≤ length ts = omega (arith, depth_within j, ap length same, length-append (json_tokens j) r) in
    ap (λ l. option_map (λ p. p.0) (value (length ts) l)) same ∙ ap (option_map (λ p. p.0)) (value-json_tokens j (length ts) r enough)

read_here : (ts : List Token) (o : Option (Json × List Token)) → value (length ts) ts ≡ o → is_some (option_map {U = Json} (λ p. p.0) o) ≡ true → (j : Json) × (reading ts ≡ Some j) × BeginsWith ts j
read_here ts None e some = absurd (true≢false (sym some))
read_here ts (Some p) e some = (p.0, ap (option_map (λ q. q.0)) e, (length ts, p.1, e))

-- a value that is read
pub read : (ts : List Token) → is_some (reading ts) ≡ true → (j : Json) × (reading ts ≡ Some j) × BeginsWith ts j
read ts some = read_here ts (value (length ts) ts) refl some

pub is_read : (ts : List Token) (j : Json) → BeginsWith ts j → is_some (reading ts) ≡ true
is_read ts j h = ap is_some (reads ts j h)

-- ---- the items of an array

abbrev IsNone : Items → Type 0
IsNone tree.no_items = ⊤
IsNone (tree.item j js) = ⊥

abbrev tail_of : Items → Items
tail_of tree.no_items = tree.no_items
tail_of (tree.item j js) = js

abbrev head_of : Items → Json
head_of tree.no_items = tree.null
head_of (tree.item j js) = j

spelled : (js : Items) (ts : List Token) (o : Option (List Token)) → after_end_array ts ≡ o → InItems ts js → (rest : List Token) × (ts ≡ items_tokens js ++ rest)
spelled tree.no_items ts (Some r) e h = (r, closed_array ts r e)
spelled tree.no_items ts None e h = let f = items_go_on ts tree.no_items e h in absurd (subst IsNone f.5 tt)
spelled (tree.item j js) ts (Some r) e h =
    absurd (subst IsNone (sym (items_close r (tree.item j js) (subst (λ l. InItems l (tree.item j js)) (closed_array ts r e) h))) tt)
spelled (tree.item j js) ts None e h =
    let f = items_go_on ts (tree.item j js) e h in
    let more = spelled js f.2 (after_end_array f.2) refl (subst (InItems f.2) (sym (ap tail_of f.5)) f.6) in
    (more.0, value-json_tokens_back f.0 ts f.2 f.1 f.4 ∙ ap (λ l. json_tokens f.1 ++ l) more.1 ∙ ap (λ i. json_tokens i ++ (items_tokens js ++ more.0)) (sym (ap head_of f.5)) ∙ sym (append_assoc (json_tokens j) (items_tokens js) more.0))

pub in_array : (ts : List Token) (js : Items) → InItems ts js → BeginsWith (begin_array ∷ ts) (tree.array js)
in_array ts js h =
    let s = spelled js ts (after_end_array ts) refl h in
    let d = depth (tree.array js) in
    (d, s.0, ap (λ l. value d (begin_array ∷ l)) s.1 ∙ value-json_tokens (tree.array js) d s.0 (omega arith))

none_left : (ts : List Token) → InItems (end_array ∷ ts) tree.no_items
unfolding tree.items
none_left ts = (0, 1, ts, refl)

pub empty_array : reading (begin_array ∷ end_array ∷ []) ≡ Some (tree.array tree.no_items)
empty_array = reads (begin_array ∷ end_array ∷ []) (tree.array tree.no_items) (in_array (end_array ∷ []) tree.no_items (none_left []))

-- ---- what a node tells of the value that begins at it

here : (ns : List Node) (i : ℕ) (d : Node) → i < length ns → drop i (map node_token ns) ≡ node_token (get_or ns i d) ∷ drop (i + 1) (map node_token ns)
here ns i d h =
    drop_more (map node_token ns) i (node_token d) (omega (arith, length-map ns node_token)) ∙ ap (λ t. t ∷ drop (i + 1) (map node_token ns)) (get_or-map node_token ns i d (node_token d) h)

pub token_here : (all : List Token) (ns : List Node) (i : ℕ) (d : Node) → map node_token ns ≡ all → i < length ns → drop i all ≡ node_token (get_or ns i d) ∷ drop (i + 1) all
token_here all ns i d same h = subst (λ l. drop i l ≡ node_token (get_or ns i d) ∷ drop (i + 1) l) same (here ns i d h)

pub as_long : (all : List Token) (ns : List Node) → map node_token ns ≡ all → length all ≡ length ns
as_long all ns same = sym (ap length same) ∙ length-map ns node_token

abbrev Shape : Node → List Token → Json → List Token → Type 0
Shape (Object a) ts j rest = (ms : Members) × (j ≡ tree.object ms)
Shape EndObject ts j rest = ⊥
Shape (Array a) ts j rest = (js : Items) × (j ≡ tree.array js)
Shape EndArray ts j rest = ⊥
Shape (Key s) ts j rest = ⊥
Shape (String s) ts j rest = (j ≡ tree.string s.now) × (rest ≡ ts)
Shape (Number s) ts j rest = (j ≡ tree.number s.now) × (rest ≡ ts)
Shape (Bool b) ts j rest = (j ≡ tree.boolean b) × (rest ≡ ts)
Shape Null ts j rest = (j ≡ tree.null) × (rest ≡ ts)

made : {A : Type 0} (f : A → Json) (o : Option (A × List Token)) (j : Json) (rest : List Token) → parse_map f o ≡ Some (j, rest) → (a : A) × (j ≡ f a)
made f None j rest e = not_found (j, rest) e
made f (Some x) j rest e = (x.0, sym (ap (λ z. z.0) (Some_inj _ _ e)))

alone : (k j : Json) (ts rest : List Token) → ◌≡◌ {A = Option (Json × List Token)} (Some (k, ts)) (Some (j, rest)) → (j ≡ k) × (rest ≡ ts)
alone k j ts rest e = let both = Some_inj _ _ e in (sym (ap (λ z. z.0) both), sym (ap (λ z. z.1) both))

shape : (n : Node) (ts : List Token) (j : Json) (d : ℕ) (rest : List Token) → value d (node_token n ∷ ts) ≡ Some (j, rest) → Shape n ts j rest
shape (Object a) ts j d rest e = made tree.object _ j rest (sym (value_is d _) ∙ e)
shape EndObject ts j d rest e = not_found (j, rest) (sym (value_is d _) ∙ e)
shape (Array a) ts j d rest e = made tree.array _ j rest (sym (value_is d _) ∙ e)
shape EndArray ts j d rest e = not_found (j, rest) (sym (value_is d _) ∙ e)
shape (Key s) ts j d rest e = not_found (j, rest) (sym (value_is d _) ∙ e)
shape (String s) ts j d rest e = alone (tree.string s.now) j ts rest (sym (value_is d _) ∙ e)
shape (Number s) ts j d rest e = alone (tree.number s.now) j ts rest (sym (value_is d _) ∙ e)
shape (Bool b) ts j d rest e = alone (tree.boolean b) j ts rest (sym (value_is d _) ∙ e)
shape Null ts j d rest e = alone tree.null j ts rest (sym (value_is d _) ∙ e)

pub one_token : (n : Node) (ts : List Token) (j : Json) (d : ℕ) (rest : List Token) → ((a : ℕ) → n ≡ Object a → ⊥) → ((a : ℕ) → n ≡ Array a → ⊥) → value d (node_token n ∷ ts) ≡ Some (j, rest) → rest ≡ ts
one_token (Object a) ts j d rest p q e = absurd (p a refl)
one_token EndObject ts j d rest p q e = absurd (shape EndObject ts j d rest e)
one_token (Array a) ts j d rest p q e = absurd (q a refl)
one_token EndArray ts j d rest p q e = absurd (shape EndArray ts j d rest e)
one_token (Key s) ts j d rest p q e = absurd (shape (Key s) ts j d rest e)
one_token (String s) ts j d rest p q e = (shape (String s) ts j d rest e).1
one_token (Number s) ts j d rest p q e = (shape (Number s) ts j d rest e).1
one_token (Bool b) ts j d rest p q e = (shape (Bool b) ts j d rest e).1
one_token Null ts j d rest p q e = (shape Null ts j d rest e).1

pub passes : (all : List Token) (ns : List Node) (i end : ℕ) → i < length ns → Linked all 0 ns → (get_or ns i (Object 0) ≡ Object end) ⊎ (get_or ns i (Object 0) ≡ Array end) → Passes all i end
passes all ns i end h linked is =
    let link : LinkAt all i (get_or ns i (Object 0)) = subst (LinkAt all i) (get_or_default ns i Null (Object 0) h) (linked i (omega arith) h) in
    ⊎_elim (λ o. subst (LinkAt all i) o link) (λ a. subst (LinkAt all i) a link) is

pub by_link : (all : List Token) (i end d : ℕ) (j : Json) (rest : List Token) → Passes all i end → value d (drop i all) ≡ Some (j, rest) → rest ≡ drop end all
by_link all i end d j rest link e =
    let other = left_some (value link.0 (drop i all)) (drop end all) link.1 in
    ap (λ z. z.1) (Some_inj _ _ (one_reading d link.0 (drop i all) _ _ e other.1))

pub no_close : (n : Node) (ts : List Token) → (n ≡ EndArray → ⊥) → after_end_array (node_token n ∷ ts) ≡ None
no_close (Object a) ts never = refl
no_close EndObject ts never = refl
no_close (Array a) ts never = refl
no_close EndArray ts never = absurd (never refl)
no_close (Key s) ts never = refl
no_close (String s) ts never = refl
no_close (Number s) ts never = refl
no_close (Bool b) ts never = refl
no_close Null ts never = refl

pub no_key : (n : Node) → ((s : Bor (List ℕ)) → n ≡ Key s → ⊥) → IsKey (node_token n) → ⊥
no_key (Object a) never h = h
no_key EndObject never h = h
no_key (Array a) never h = h
no_key EndArray never h = h
no_key (Key s) never h = never s refl
no_key (String s) never h = h
no_key (Number s) never h = h
no_key (Bool b) never h = h
no_key Null never h = h

pub an_object : (a : ℕ) (ts : List Token) (j : Json) → BeginsWith (node_token (Object a) ∷ ts) j → (ms : Members) × (j ≡ tree.object ms)
an_object a ts j h = shape (Object a) ts j h.0 h.1 h.2

pub an_array : (a : ℕ) (ts : List Token) (j : Json) → BeginsWith (node_token (Array a) ∷ ts) j → (js : Items) × (j ≡ tree.array js)
an_array a ts j h = shape (Array a) ts j h.0 h.1 h.2

pub a_text : (s : Bor (List ℕ)) (ts : List Token) (j : Json) → BeginsWith (node_token (String s) ∷ ts) j → j ≡ tree.string s.now
a_text s ts j h = (shape (String s) ts j h.0 h.1 h.2).0

pub a_null : (ts : List Token) (j : Json) → BeginsWith (node_token Null ∷ ts) j → j ≡ tree.null
a_null ts j h = (shape Null ts j h.0 h.1 h.2).0

number_is_no_text : (o : Option Num) → as_str (shown_number o) ≡ None
number_is_no_text None = refl
number_is_no_text (Some n) = refl

number_is_no_object : (o : Option Num) → as_object (shown_number o) ≡ None
number_is_no_object None = refl
number_is_no_object (Some n) = refl

number_is_no_array : (o : Option Num) → as_list (shown_number o) ≡ None
number_is_no_array None = refl
number_is_no_array (Some n) = refl

pub no_text_here : (n : Node) (ts : List Token) (j : Json) → ((s : Bor (List ℕ)) → n ≡ String s → ⊥) → BeginsWith (node_token n ∷ ts) j → as_str (shown j) ≡ None
no_text_here (Object a) ts j never h = ap (λ i. as_str (shown i)) (shape (Object a) ts j h.0 h.1 h.2).1
no_text_here EndObject ts j never h = absurd (shape EndObject ts j h.0 h.1 h.2)
no_text_here (Array a) ts j never h = ap (λ i. as_str (shown i)) (shape (Array a) ts j h.0 h.1 h.2).1
no_text_here EndArray ts j never h = absurd (shape EndArray ts j h.0 h.1 h.2)
no_text_here (Key s) ts j never h = absurd (shape (Key s) ts j h.0 h.1 h.2)
no_text_here (String s) ts j never h = absurd (never s refl)
no_text_here (Number s) ts j never h = ap (λ i. as_str (shown i)) (shape (Number s) ts j h.0 h.1 h.2).0 ∙ number_is_no_text (number_of s.now)
no_text_here (Bool b) ts j never h = ap (λ i. as_str (shown i)) (shape (Bool b) ts j h.0 h.1 h.2).0
no_text_here Null ts j never h = ap (λ i. as_str (shown i)) (shape Null ts j h.0 h.1 h.2).0

pub no_object_here : (n : Node) (ts : List Token) (j : Json) → ((a : ℕ) → n ≡ Object a → ⊥) → BeginsWith (node_token n ∷ ts) j → as_object (shown j) ≡ None
no_object_here (Object a) ts j never h = absurd (never a refl)
no_object_here EndObject ts j never h = absurd (shape EndObject ts j h.0 h.1 h.2)
no_object_here (Array a) ts j never h = ap (λ i. as_object (shown i)) (shape (Array a) ts j h.0 h.1 h.2).1
no_object_here EndArray ts j never h = absurd (shape EndArray ts j h.0 h.1 h.2)
no_object_here (Key s) ts j never h = absurd (shape (Key s) ts j h.0 h.1 h.2)
no_object_here (String s) ts j never h = ap (λ i. as_object (shown i)) (shape (String s) ts j h.0 h.1 h.2).0
no_object_here (Number s) ts j never h = ap (λ i. as_object (shown i)) (shape (Number s) ts j h.0 h.1 h.2).0 ∙ number_is_no_object (number_of s.now)
no_object_here (Bool b) ts j never h = ap (λ i. as_object (shown i)) (shape (Bool b) ts j h.0 h.1 h.2).0
no_object_here Null ts j never h = ap (λ i. as_object (shown i)) (shape Null ts j h.0 h.1 h.2).0

pub no_array_here : (n : Node) (ts : List Token) (j : Json) → ((a : ℕ) → n ≡ Array a → ⊥) → BeginsWith (node_token n ∷ ts) j → as_list (shown j) ≡ None
no_array_here (Object a) ts j never h = ap (λ i. as_list (shown i)) (shape (Object a) ts j h.0 h.1 h.2).1
no_array_here EndObject ts j never h = absurd (shape EndObject ts j h.0 h.1 h.2)
no_array_here (Array a) ts j never h = absurd (never a refl)
no_array_here EndArray ts j never h = absurd (shape EndArray ts j h.0 h.1 h.2)
no_array_here (Key s) ts j never h = absurd (shape (Key s) ts j h.0 h.1 h.2)
no_array_here (String s) ts j never h = ap (λ i. as_list (shown i)) (shape (String s) ts j h.0 h.1 h.2).0
no_array_here (Number s) ts j never h = ap (λ i. as_list (shown i)) (shape (Number s) ts j h.0 h.1 h.2).0 ∙ number_is_no_array (number_of s.now)
no_array_here (Bool b) ts j never h = ap (λ i. as_list (shown i)) (shape (Bool b) ts j h.0 h.1 h.2).0
no_array_here Null ts j never h = ap (λ i. as_list (shown i)) (shape Null ts j h.0 h.1 h.2).0

pub not_null_here : (n : Node) (ts : List Token) (j : Json) → (n ≡ Null → ⊥) → BeginsWith (node_token n ∷ ts) j → is_null j ≡ false
not_null_here (Object a) ts j never h = ap is_null (shape (Object a) ts j h.0 h.1 h.2).1
not_null_here EndObject ts j never h = absurd (shape EndObject ts j h.0 h.1 h.2)
not_null_here (Array a) ts j never h = ap is_null (shape (Array a) ts j h.0 h.1 h.2).1
not_null_here EndArray ts j never h = absurd (shape EndArray ts j h.0 h.1 h.2)
not_null_here (Key s) ts j never h = absurd (shape (Key s) ts j h.0 h.1 h.2)
not_null_here (String s) ts j never h = ap is_null (shape (String s) ts j h.0 h.1 h.2).0
not_null_here (Number s) ts j never h = ap is_null (shape (Number s) ts j h.0 h.1 h.2).0
not_null_here (Bool b) ts j never h = ap is_null (shape (Bool b) ts j h.0 h.1 h.2).0
not_null_here Null ts j never h = absurd (never refl)

-- ---- the node at a place where a value is read

abbrev pub IsNodeAt : List Token → ℕ → Node → Type 0
IsNodeAt all i n = (j : Json) → BeginsWith (drop i all) j → drop i all ≡ node_token n ∷ drop (i + 1) all

pub text_at : (all : List Token) (i : ℕ) (s : Bor (List ℕ)) → is_some (reading (drop i all)) ≡ true → IsNodeAt all i (String s) → reading (drop i all) ≡ Some (tree.string s.now)
text_at all i s some first =
    let r = read (drop i all) some in
    r.1 ∙ ap (λ (j : Json). Some j) (a_text s (drop (i + 1) all) r.0 (subst (λ l. BeginsWith l r.0) (first r.0 r.2) r.2))

pub no_text_at : (all : List Token) (i : ℕ) (n : Node) → ((s : Bor (List ℕ)) → n ≡ String s → ⊥) → is_some (reading (drop i all)) ≡ true → IsNodeAt all i n → as_str (shown_reading (reading (drop i all))) ≡ None
no_text_at all i n never some first =
    let r = read (drop i all) some in
    ap (λ o. as_str (shown_reading o)) r.1 ∙ no_text_here n (drop (i + 1) all) r.0 never (subst (λ l. BeginsWith l r.0) (first r.0 r.2) r.2)

pub object_at : (all : List Token) (i a : ℕ) → is_some (reading (drop i all)) ≡ true → IsNodeAt all i (Object a) → (ms : Members) × (reading (drop i all) ≡ Some (tree.object ms)) × InMembers (drop (i + 1) all) ms
object_at all i a some first =
    let r = read (drop i all) some in
    let now = subst (λ l. BeginsWith l r.0) (first r.0 r.2) r.2 in
    let m = an_object a (drop (i + 1) all) r.0 now in
    (m.0, r.1 ∙ ap (λ (j : Json). Some j) m.1, opened _ (tree.object m.0) (subst (BeginsWith (begin_object ∷ drop (i + 1) all)) m.1 now))

pub no_object_at : (all : List Token) (i : ℕ) (n : Node) → ((a : ℕ) → n ≡ Object a → ⊥) → is_some (reading (drop i all)) ≡ true → IsNodeAt all i n → as_object (shown_reading (reading (drop i all))) ≡ None
no_object_at all i n never some first =
    let r = read (drop i all) some in
    ap (λ o. as_object (shown_reading o)) r.1 ∙ no_object_here n (drop (i + 1) all) r.0 never (subst (λ l. BeginsWith l r.0) (first r.0 r.2) r.2)

pub items_of : (ts : List Token) → is_some (reading (begin_array ∷ ts)) ≡ true → (js : Items) × (reading (begin_array ∷ ts) ≡ Some (tree.array js)) × InItems ts js
items_of ts some =
    let r = read (begin_array ∷ ts) some in
    let a = an_array 0 ts r.0 r.2 in
    (a.0, r.1 ∙ ap (λ (j : Json). Some j) a.1, opened _ (tree.array a.0) (subst (BeginsWith (begin_array ∷ ts)) a.1 r.2))

pub array_at : (all : List Token) (i a : ℕ) → is_some (reading (drop i all)) ≡ true → IsNodeAt all i (Array a) → (js : Items) × (reading (drop i all) ≡ Some (tree.array js)) × InItems (drop (i + 1) all) js
array_at all i a some first =
    let r = read (drop i all) some in
    let now = subst (λ l. BeginsWith l r.0) (first r.0 r.2) r.2 in
    let m = an_array a (drop (i + 1) all) r.0 now in
    (m.0, r.1 ∙ ap (λ (j : Json). Some j) m.1, opened _ (tree.array m.0) (subst (BeginsWith (begin_array ∷ drop (i + 1) all)) m.1 now))

pub no_array_at : (all : List Token) (i : ℕ) (n : Node) → ((a : ℕ) → n ≡ Array a → ⊥) → is_some (reading (drop i all)) ≡ true → IsNodeAt all i n → as_list (shown_reading (reading (drop i all))) ≡ None
no_array_at all i n never some first =
    let r = read (drop i all) some in
    ap (λ o. as_list (shown_reading o)) r.1 ∙ no_array_here n (drop (i + 1) all) r.0 never (subst (λ l. BeginsWith l r.0) (first r.0 r.2) r.2)
