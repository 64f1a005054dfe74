-- A reply's head is a head of httparse's grammar.
use Rattle.std.proofs.Common.{◌≡◌, ℕ, ◌<◌, ◌≤◌, ◌^◌, Bool, true, false, not, ◌&&◌, ◌||◌, cond, eqb, List, [], ◌∷◌, ◌++◌, map, reverse, length, Option, Some, None, IsTrue, refl, sym, ap, ◌∙◌, arith, append_assoc}
use Rattle.std.specs.Prelude.{All, codes, decimal, flat_map, IfSome, ◌==◌}
use Rattle.std.specs.Fmt.{digits}
use Rattle.std.specs.List.{list_all, list_any}
use Rattle.std.specs.Char.{digit_value, is_ascii_digit}
use Rattle.std.specs.Str.Parse.{digits_value, AllDigits}
use Rattle.std.proofs.lemmas.Bool.{and_parts, not-true}
use Rattle.std.proofs.lemmas.Bool.Decides.{nat_tests}
use Rattle.std.proofs.lemmas.Fmt.{decimal_is_IsNumeral}
use Rattle.std.proofs.lemmas.List.{reverse-append}
use Rattle.std.proofs.lemmas.List.Elements.{All-nil, All-cons, All-head, All-tail, All-append}
use Rattle.std.proofs.lemmas.List.Folds.{list_all-append}
use Rattle.std.proofs.lemmas.List.Sums.{AllPass-from_list_all}
use Rattle.std.proofs.lemmas.Str.Parse.{digit_from_value}
use Rattle.std.proofs.lemmas.List.Concat.{flat_map-cons}
use Rattle.httparse.proofs.GrammarLemmas.{cons-append}
use Rattle.httparse.specs.Grammar.{is_token_byte, is_value_byte, is_ows, skip_ows, trim_ows, crlf, Field, IsField, print_field, ResponseHead, IsResponseHead, print_response}
use Rattle.httparse.specs.Spans.{name_and_value}
use Rattle.httparse.proofs.TrimLemmas.{trim_ows_space}
use Rattle.http_wire.specs.declared.reply.Allow.{Allow}
use Rattle.http_wire.specs.declared.reply.Allow.TheVariants as allows
use Rattle.http_wire.specs.declared.reply.Reply.{Reply}
use Rattle.http_wire.specs.Fields.{Header}
use Rattle.http_wire.specs.Replies.{phrases, phrase_in, HasPhrase, status_line, method_of, snapshot_fields, allow_fields, close_fields, fields_of, field_line, head_of}
use Rattle.http_wire.specs.ReadsBack.{ReadsBack, IsReply}

-- ---- values

-- a byte of a value that is no blank
plain : ℕ → Bool
plain b = is_value_byte b && not (is_ows b)

value-of : (xs : List ℕ) → list_all plain xs ≡ true → list_all is_value_byte xs ≡ true
unfolding plain
value-of [] e = refl
value-of (x ∷ xs) e =
    let p = and_parts (plain x) (list_all plain xs) e in
    let q = and_parts (is_value_byte x) (not (is_ows x)) p.0 in
    rw (q.0) (value-of xs p.1)

skip-plain : (xs : List ℕ) → list_all plain xs ≡ true → skip_ows xs ≡ xs
unfolding plain
skip-plain [] e = refl
skip-plain (x ∷ xs) e =
    let p = and_parts (plain x) (list_all plain xs) e in
    let q = and_parts (is_value_byte x) (not (is_ows x)) p.0 in
    ap (λ t. cond t (skip_ows xs) (x ∷ xs)) (not-true (is_ows x) q.1)

reverse-plain : (xs : List ℕ) → list_all plain xs ≡ true → list_all plain (reverse xs) ≡ true
reverse-plain [] e = refl
reverse-plain (x ∷ xs) e =
    let p = and_parts (plain x) (list_all plain xs) e in
    let r : reverse (x ∷ xs) ≡ reverse xs ++ (x ∷ []) = reverse-append (x ∷ []) xs in
    ap (list_all plain) r ∙ list_all-append plain (reverse xs) (x ∷ []) ∙ (rw (reverse-plain xs p.1, p.0) refl)

trimmed : (xs : List ℕ) → list_all plain xs ≡ true → trim_ows (32 ∷ xs) ≡ xs
trimmed xs e = trim_ows_space xs (skip-plain xs e) (skip-plain (reverse xs) (reverse-plain xs e))

digit-plain : (c : ℕ) → digit_value c < 10 → plain c ≡ true
unfolding plain
digit-plain c lt =
    let r = digit_from_value c lt in
    grind (arith, nat_tests, r)

digits-plain : (xs : List ℕ) → AllDigits 10 xs → list_all plain xs ≡ true
digits-plain [] e = refl
digits-plain (x ∷ xs) e = rw (digit-plain x e.0) (digits-plain xs e.1)

decimal-plain : (n : ℕ) → n < 2 ^ 64 → list_all plain (decimal n) ≡ true
decimal-plain n lt = digits-plain (decimal n) (decimal_is_IsNumeral n lt).0.1

-- ---- fields

record IsGood (h : Header) : Type 0 where
  some : 0 < length h.0
  name : list_all is_token_byte h.0 ≡ true
  value : list_all plain h.1 ≡ true

field_of : Header → Field
field_of h = record { name = h.0; raw = 32 ∷ h.1; end = crlf }

field-good : (h : Header) → IsGood h → IsField (field_of h)
unfolding field_of
field-good h g = record {
  name = (g.some, AllPass-from_list_all is_token_byte h.0 g.name);
  raw = All-cons (λ b. is_value_byte b ≡ true) 32 h.1 refl (AllPass-from_list_all is_value_byte h.1 (value-of h.1 g.value));
}

all-fields : (hs : List Header) → All IsGood hs → All IsField (map field_of hs)
all-fields [] g = All-nil IsField
all-fields (h ∷ hs) g = All-cons IsField (field_of h) (map field_of hs) (field-good h (All-head IsGood h hs g)) (all-fields hs (All-tail IsGood h hs g))

same-fields : (hs : List Header) → All IsGood hs → map name_and_value (map field_of hs) ≡ hs
unfolding field_of
same-fields [] g = refl
same-fields (h ∷ hs) g = λ i. (h.0, trimmed h.1 (All-head IsGood h hs g).value i) ∷ same-fields hs (All-tail IsGood h hs g) i

one-line : (h : Header) → print_field (field_of h) ≡ field_line h
unfolding field_of
one-line h = simp (append_assoc, cons-append)

same-lines : (hs : List Header) → flat_map print_field (map field_of hs) ≡ flat_map field_line hs
same-lines [] = refl
same-lines (h ∷ hs) =
    flat_map-cons print_field (field_of h) (map field_of hs) ∙ ap (λ (l : List ℕ). l ++ flat_map print_field (map field_of hs)) (one-line h)
    ∙ ap (λ (l : List ℕ). field_line h ++ l) (same-lines hs) ∙ sym (flat_map-cons field_line h hs)

one-good : (h : Header) → IsGood h → All IsGood (h ∷ [])
one-good h g = All-cons IsGood h [] g (All-nil IsGood)

snapshot-good : (o : Option ℕ) → IfSome o (λ s. s < 2 ^ 64) → All IsGood (snapshot_fields o)
unfolding is_token_byte
snapshot-good None lt = All-nil IsGood
snapshot-good (Some s) lt = one-good (codes "x-osv-snapshot", decimal s) (record { some = omega arith; name = refl; value = decimal-plain s lt })

allow-good : (o : Option Allow) → All IsGood (allow_fields o)
unfolding is_token_byte plain
allow-good None = All-nil IsGood
allow-good (Some allows.Get) = one-good (codes "allow", codes "GET") (record { some = omega arith; name = refl; value = refl })
allow-good (Some allows.Post) = one-good (codes "allow", codes "POST") (record { some = omega arith; name = refl; value = refl })

close-good : (b : Bool) → All IsGood (close_fields b)
unfolding is_token_byte plain
close-good false = All-nil IsGood
close-good true = one-good (codes "connection", codes "close") (record { some = omega arith; name = refl; value = refl })

fields-good : (r : Reply) → IsReply r → All IsGood (fields_of r)
unfolding fields_of is_token_byte plain
fields-good r is =
    let rest = All-append IsGood (snapshot_fields r.snapshot) (allow_fields r.allow ++ close_fields r.close) (snapshot-good r.snapshot is.snapshot)
    (All-append IsGood (allow_fields r.allow) (close_fields r.close) (allow-good r.allow) (close-good r.close)) in
    let more = snapshot_fields r.snapshot ++ (allow_fields r.allow ++ close_fields r.close) in
    let len = All-cons IsGood (codes "content-length", decimal (length r.body)) more (record { some = omega arith; name = refl; value = decimal-plain (length r.body) is.body }) rest in
    All-cons IsGood (codes "content-type", codes "application/json") ((codes "content-length", decimal (length r.body)) ∷ more) (record { some = omega arith; name = refl; value = refl }) len

-- ---- the status

good_status : ℕ → Bool
good_status s = (length (decimal s) == 3) && (list_all is_ascii_digit (decimal s) && ((digits_value 10 (decimal s) == s) && list_all is_value_byte (phrase_in s phrases)))

each-good : list_all (λ (p : ℕ × List ℕ). good_status p.0) phrases ≡ true
unfolding good_status digits
each-good = refl

listed : (s : ℕ) (ps : List (ℕ × List ℕ)) → list_any (λ (p : ℕ × List ℕ). s == p.0) ps ≡ true → list_all (λ (p : ℕ × List ℕ). good_status p.0) ps ≡ true → good_status s ≡ true
listed s [] e a = absurd cc
listed s (p ∷ ps) e a =
    let parts = and_parts (good_status p.0) (list_all (λ (q : ℕ × List ℕ). good_status q.0) ps) a in
    cases (eqb s p.0) refl e parts.0 (λ f. listed s ps f parts.1)
  where
    cases : (b : Bool) → eqb s p.0 ≡ b → (b || list_any (λ (q : ℕ × List ℕ). s == q.0) ps) ≡ true → good_status p.0 ≡ true → (list_any (λ (q : ℕ × List ℕ). s == q.0) ps ≡ true → good_status s ≡ true)
        → good_status s ≡ true
    cases true t f good more =
        let same : s ≡ p.0 = grind (arith, nat_tests) in
        ap good_status same ∙ good
    cases false t f good more = more f

record IsLine (s : ℕ) : Type 0 where
  len : length (decimal s) ≡ 3
  digits : list_all is_ascii_digit (decimal s) ≡ true
  value : digits_value 10 (decimal s) ≡ s
  phrase : list_all is_value_byte (phrase_in s phrases) ≡ true

line-of : (s : ℕ) → HasPhrase s → IsLine s
unfolding good_status
line-of s has =
    let all = listed s phrases has each-good in
    let p = and_parts (length (decimal s) == 3) _ all in
    let q = and_parts (list_all is_ascii_digit (decimal s)) _ p.1 in
    let v = and_parts (digits_value 10 (decimal s) == s) _ q.1 in
    let len : eqb (length (decimal s)) 3 ≡ true = p.0 in
    let value : eqb (digits_value 10 (decimal s)) s ≡ true = v.0 in
    record { len = grind (arith, nat_tests); digits = q.0; value = grind (arith, nat_tests); phrase = v.1 }

-- ---- the head

head-tree : Reply → ResponseHead
head-tree r = record {
  blank = [];
  minor = 1;
  digits = decimal r.status;
  reason = Some (phrase_in r.status phrases);
  line_end = crlf;
  fields = map field_of (fields_of r);
  last = crlf;
}

line-text : (d p : List ℕ) (fs : List Field)
    → (codes "HTTP/1.1 " ++ (d ++ (codes " " ++ (p ++ codes "\r\n")))) ++ (flat_map print_field fs ++ codes "\r\n")
    ≡ print_response (record { blank = []; minor = 1; digits = d; reason = Some p; line_end = crlf; fields = fs; last = crlf })
unfolding print_response
line-text d p fs =
    let after = 13 ∷ 10 ∷ (flat_map print_field fs ++ (13 ∷ 10 ∷ [])) in
    simp (append_assoc, cons-append) (ap (λ (l : List ℕ). codes "HTTP/1.1 " ++ l) (sym (append_assoc d (32 ∷ p) after)))

tree-text : (r : Reply) → head_of r ≡ print_response (head-tree r)
unfolding head-tree head_of status_line
tree-text r =
    ap (λ (l : List ℕ). (codes "HTTP/1.1 " ++ (decimal r.status ++ (codes " " ++ (phrase_in r.status phrases ++ codes "\r\n")))) ++ (l ++ codes "\r\n")) (sym (same-lines (fields_of r)))
    ∙ line-text (decimal r.status) (phrase_in r.status phrases) (map field_of (fields_of r))

pub reads-back : (r : Reply) (rest : List ℕ) → IsReply r → ReadsBack r rest
unfolding head-tree
reads-back r rest is =
    let line = line-of r.status is.status in
    let good = fields-good r is in
    record {
      head = head-tree r;
      reads = (
        record {
          minor = omega arith;
          digits = (line.len, AllPass-from_list_all is_ascii_digit (decimal r.status) line.digits);
          reason = AllPass-from_list_all is_value_byte (phrase_in r.status phrases) line.phrase;
          fields = all-fields (fields_of r) good;
        },
        ap (λ (l : List ℕ). l ++ rest) (tree-text r),
      );
      version = refl;
      status = line.value;
      fields = same-fields (fields_of r) good;
    }
