-- A body by length, part by part.
use Rattle.std.proofs.Common.{◌≡◌, ℕ, ◌+◌, ◌-◌, ◌<◌, ◌≤◌, Bool, true, false, ltb, List, [], ◌++◌, length, take, drop, Option, Some, None, length-append, refl, sym, ap, ◌∙◌, arith}
use Rattle.std.specs.Io.KnownBytes.{IsAtEnd}
use Rattle.std.proofs.lemmas.List.{append-nil, drop_at, drop-drop}
use Rattle.std.proofs.lemmas.Bool.Decides.{nat_tests}
use Rattle.http_wire.specs.declared.taking.Taken.TheVariants as taken
use Rattle.http_wire.specs.declared.rest.Stage.{Stage}
use Rattle.http_wire.specs.declared.rest.Stage.TheVariants.{Bytes}
use Rattle.http_wire.specs.declared.rest.Part.TheVariants.{More, Done, Truncated, ReadFault}
use Rattle.http_wire.specs.Chunks.{Whole, Short, behind, sized}
use Rattle.http_wire.specs.Parts.{Took, TookBehind, GivesOf, GivesBehind}
use Rattle.http_wire.proofs.Texts.{take-longer}

pub sized-none : (text : List ℕ) → sized 0 text ≡ Whole [] text
unfolding sized
sized-none text =
    let e : ltb (length text) 0 ≡ false = grind (arith, nat_tests) in
    rw e refl

pub sized-short : (n : ℕ) (text : List ℕ) → length text < n → sized n text ≡ Short
unfolding sized
sized-short n text lt =
    let e : ltb (length text) n ≡ true = grind (arith, nat_tests) in
    rw e refl

sized-whole : (n : ℕ) (text : List ℕ) → n ≤ length text → sized n text ≡ Whole (take n text) (drop n text)
unfolding sized
sized-whole n text le =
    let e : ltb (length text) n ≡ false = grind (arith, nat_tests) in
    rw e refl

pub drop-longer : (n : ℕ) (xs ys : List ℕ) → length xs ≤ n → drop n (xs ++ ys) ≡ drop (n - length xs) ys
drop-longer n xs ys le =
    let e : n ≡ length xs + (n - length xs) = omega arith in
    ap (λ k. drop k (xs ++ ys)) e ∙ sym (drop-drop (n - length xs) (length xs) (xs ++ ys)) ∙ ap (drop (n - length xs)) (drop_at xs ys (length xs) refl)

-- a part, and then the rest
pub sized-part : (n k : ℕ) (bytes rest : List ℕ) → length bytes ≡ k → k ≤ n → sized n (bytes ++ rest) ≡ behind bytes (sized (n - k) rest)
sized-part n k bytes rest len le = cases (ltb (length rest) (n - k)) refl
  where
    cases : (b : Bool) → ltb (length rest) (n - k) ≡ b → sized n (bytes ++ rest) ≡ behind bytes (sized (n - k) rest)
    cases true e =
        let lt : length rest < n - k = grind (arith, nat_tests) in
        sized-short n (bytes ++ rest) (omega (arith, length-append bytes rest)) ∙ ap (behind bytes) (sym (sized-short (n - k) rest lt))
    cases false e =
        let ge : n - k ≤ length rest = grind (arith, nat_tests) in
        let m : n - length bytes ≡ n - k = omega arith in
        sized-whole n (bytes ++ rest) (omega (arith, length-append bytes rest))
        ∙ (λ i. Whole (take-longer n bytes rest (omega arith) i) (drop-longer n bytes rest (omega arith) i))
        ∙ ap (λ j. Whole (bytes ++ take j rest) (drop j rest)) m
        ∙ ap (behind bytes) (sym (sized-whole (n - k) rest ge))

pub gives-done : (limit n : ℕ) (before : Option (List ℕ)) (bytes : List ℕ) (new : Stage) → n ≡ 0 → GivesBehind limit (Bytes n) before bytes Done bytes new before
gives-done limit n None bytes new e = ([], sym (append-nil bytes), tt)
gives-done limit n (Some text) bytes new e = ([], sym (append-nil bytes), (refl, text, refl, ap (λ m. sized m text) e ∙ sized-none text))

more-bytes : (limit n m k : ℕ) (before after : Option (List ℕ)) (bytes : List ℕ) → m ≤ n → Took m before (taken.Bytes k) bytes after → GivesOf limit (Bytes n) before More bytes (Bytes (n - k)) after
more-bytes limit n m k None after bytes le t = tt
more-bytes limit n m k (Some text) None bytes le t = absurd t.4
more-bytes limit n m k (Some text) (Some rest) bytes le t =
    (rest, refl, omega (arith, t.0, t.1), omega (arith, t.0, t.3), ap (sized n) t.4 ∙ sized-part n k bytes rest t.0 (omega (arith, t.2, le)))

pub gives-bytes : (limit n m k : ℕ) (before after : Option (List ℕ)) (part part_now : List ℕ) → m ≤ n → TookBehind m before part (taken.Bytes k) part_now after → GivesBehind limit (Bytes n) before part More part_now (Bytes (n - k)) after
gives-bytes limit n m k before after part part_now le t = (t.0, t.1, more-bytes limit n m k before after t.0 le t.2)

ended-bytes : (limit n m : ℕ) (before after : Option (List ℕ)) (bytes : List ℕ) (new : Stage) → Took m before taken.Ended bytes after → 0 < n → GivesOf limit (Bytes n) before Truncated bytes new after
ended-bytes limit n m None after bytes new t some = tt
ended-bytes limit n m (Some text) after bytes new t some = (t.0, sized-short n text (omega (arith, ap length t.1)))

pub gives-ended : (limit n m : ℕ) (before after : Option (List ℕ)) (part part_now : List ℕ) (new : Stage) → TookBehind m before part taken.Ended part_now after → 0 < n → GivesBehind limit (Bytes n) before part Truncated part_now new after
gives-ended limit n m before after part part_now new t some = (t.0, t.1, ended-bytes limit n m before after t.0 new t.2 some)

fault-of : (limit m : ℕ) (s : Stage) (before after : Option (List ℕ)) (bytes : List ℕ) (new : Stage) → Took m before taken.ReadFault bytes after → GivesOf limit s before ReadFault bytes new after
fault-of limit m s None after bytes new t = tt
fault-of limit m s (Some text) after bytes new t = t.0

pub gives-fault : (limit m : ℕ) (s : Stage) (before after : Option (List ℕ)) (part part_now : List ℕ) (new : Stage) → TookBehind m before part taken.ReadFault part_now after → GivesBehind limit s before part ReadFault part_now new after
gives-fault limit m s before after part part_now new t = (t.0, t.1, fault-of limit m s before after t.0 new t.2)
