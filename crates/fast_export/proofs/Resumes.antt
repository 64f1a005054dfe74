-- What a stream is if more of it comes, one step of the code after another.
use Rattle.std.proofs.Common.{◌≡◌, ℕ, ◌+◌, ◌-◌, ◌<◌, ◌≤◌, Bool, true, false, cond, ltb, List, [], ◌∷◌, ◌++◌, length, take, drop, length-drop, length-append, append_assoc, refl, sym, ap, subst, ◌∙◌, arith, inl, inr}
use Rattle.std.proofs.lemmas.Bool.{cases_lt}
use Rattle.std.proofs.lemmas.Bool.Decides.{nat_tests}
use Rattle.std.proofs.lemmas.List.{drop-drop, drop-append-le, take_all}
use Rattle.fast_export.specs.declared.fault.StreamFault.{StreamFault}
use Rattle.fast_export.specs.declared.fault.StreamFault.TheVariants as faults
use Rattle.fast_export.specs.declared.grammar.Part.{Part}
use Rattle.fast_export.specs.declared.reading.Reading.{Reading}
use Rattle.fast_export.specs.Lines.{IsClean, max_line_bytes}
use Rattle.fast_export.specs.Facts.{Facts}
use Rattle.fast_export.specs.Stream.{Step, Next, Stop, ◌>>=◌, Bad, Whole, Short, skipping}
use Rattle.fast_export.specs.Following.{left, Offered, Goes, Ends, Refuses, offered, behind_line}
use Rattle.fast_export.specs.Reading.{going, Leads, Faulty}
use Rattle.fast_export.proofs.Cuts.{clean-append, line-whole, line-too_long}
use Rattle.fast_export.proofs.Left.{skipping-none, left-line, left-too_long}

-- ---- counted bytes

pub long_enough : (k : ℕ) (f : Facts) (at : ℕ) (text : List ℕ) → k ≤ length text → skipping k f at text ≡ Next f (at + k) (drop k text)
unfolding skipping
long_enough k f at text le = let e : ltb (length text) k ≡ false = grind (arith, nat_tests) in rw e refl

pub too_short : (k : ℕ) (f : Facts) (at : ℕ) (text : List ℕ) → length text < k → skipping k f at text ≡ Stop Short
unfolding skipping
too_short k f at text lt = let e : ltb (length text) k ≡ true = grind (arith, nat_tests) in rw e refl

rest_of : (n : ℕ) (text : List ℕ) → take (length text - n) (drop n text) ≡ drop n text
rest_of n text = take_all _ (drop n text) (omega (arith, length-drop n text))

skip_sum : (n k : ℕ) → n ≤ k → n + (k - n) ≡ k
skip_sum n k a = omega arith

skip_offset : (n k at : ℕ) → n ≤ k → at + k ≡ at + n + (k - n)
skip_offset n k at a = omega arith

skipping-part : (n k : ℕ) (f : Facts) (at : ℕ) (text more : List ℕ) → n ≤ k → n ≤ length text → skipping k f at (text ++ more) ≡ skipping (k - n) f (at + n) (drop n text ++ more)
skipping-part n k f at text more a b =
    let len : length (drop n text ++ more) + n ≡ length (text ++ more) = omega (arith, length-append (drop n text) more, length-append text more, length-drop n text) in
    let behind : drop (k - n) (drop n text ++ more) ≡ drop k (text ++ more) = ap (drop (k - n)) (sym (drop-append-le n text more b)) ∙ drop-drop (k - n) n (text ++ more) ∙ ap (λ (j : ℕ). drop j (text ++ more)) (skip_sum n k a) in
    elim (cases_lt (length (text ++ more)) k) [
      | inl lt ↦ too_short k f at (text ++ more) lt ∙ sym (too_short (k - n) f (at + n) (drop n text ++ more) (omega arith))
      | inr le ↦
          long_enough k f at (text ++ more) le ∙ ap (λ (j : ℕ). Next f j (drop k (text ++ more))) (skip_offset n k at a) ∙ ap (λ (t : List ℕ). Next f (at + n + (k - n)) t) (sym behind)
          ∙ sym (long_enough (k - n) f (at + n) (drop n text ++ more) (omega arith))
    ]

-- ---- what is going on

pub going-part : (most : ℕ) (ps : List Part) (f : Facts) (line : List ℕ) (at skip n : ℕ) (text more : List ℕ) → n ≤ skip → n ≤ length text
    → going most ps f line at skip (text ++ more) ≡ going most ps f line (at + n) (skip - n) (take (length text - n) (drop n text) ++ more)
unfolding going
going-part most ps f line at skip n text more a b =
    ap (λ (s : Step). s >>= λ g offset rest. left most ps g offset (line ++ rest))
    (skipping-part n skip f at text more a b ∙ ap (λ (t : List ℕ). skipping (skip - n) f (at + n) (t ++ more)) (sym (rest_of n text)))

pub going-line : (most : ℕ) (ps : List Part) (f : Facts) (line : List ℕ) (at : ℕ) (text : List ℕ) → going most ps f line at 0 text ≡ left most ps f at (line ++ text)
unfolding going
going-line most ps f line at text = ap (λ (s : Step). s >>= λ g offset rest. left most ps g offset (line ++ rest)) (skipping-none f at text)

pub going-kept : (most : ℕ) (ps : List Part) (f : Facts) (line front new : List ℕ) (at : ℕ) (more : List ℕ) → new ≡ line ++ front
    → going most ps f line at 0 (front ++ more) ≡ going most ps f new at 0 more
going-kept most ps f line front new at more e =
    going-line most ps f line at (front ++ more) ∙ ap (left most ps f at) (sym (append_assoc line front more) ∙ ap (λ (l : List ℕ). l ++ more) (sym e)) ∙ sym (going-line most ps f new at more)

pub going-too_long : (most : ℕ) (ps : List Part) (f : Facts) (line front : List ℕ) (at : ℕ) (more : List ℕ) → IsClean line → IsClean front → max_line_bytes < length line + length front
    → going most ps f line at 0 (front ++ more) ≡ Stop (Bad (faults.LineTooLong at))
going-too_long most ps f line front at more a b lt =
    going-line most ps f line at (front ++ more) ∙ ap (left most ps f at) (sym (append_assoc line front more))
    ∙ left-too_long most ps f at ((line ++ front) ++ more) (line-too_long (line ++ front) more (clean-append line front a b) (omega (arith, length-append line front)))

going-took : (most : ℕ) (ps : List Part) (f : Facts) (line front after : List ℕ) (at : ℕ) (more : List ℕ) → IsClean line → IsClean front → length line + length front ≤ max_line_bytes
    → going most ps f line at 0 ((front ++ 10 ∷ after) ++ more) ≡ behind_line most (offered most ps f at (line ++ front)) (at + (length line + length front + 1)) (after ++ more)
going-took most ps f line front after at more a b le =
    going-line most ps f line at ((front ++ 10 ∷ after) ++ more)
    ∙ ap (left most ps f at) (ap (λ (t : List ℕ). line ++ t) (append_assoc front (10 ∷ after) more) ∙ sym (append_assoc line front (10 ∷ (after ++ more))))
    ∙ left-line most ps f at ((line ++ front) ++ 10 ∷ (after ++ more)) (line ++ front) (after ++ more) (line-whole (line ++ front) (after ++ more) (clean-append line front a b) (omega (arith, length-append line front)))
    ∙ ap (λ (n : ℕ). behind_line most (offered most ps f at (line ++ front)) (at + (n + 1)) (after ++ more)) (length-append line front)

going-new : (most : ℕ) (ps : List Part) (n : ℕ) (f : Facts) (line : List ℕ) (at : ℕ) (more : List ℕ) → line ≡ [] → behind_line most (Goes ps n f) at more ≡ going most ps f line at n more
unfolding going
going-new most ps n f line at more e = sym (rw e refl)

-- ---- a whole line, behind the front of it that was kept

pub line_refused : (most : ℕ) (ps : List Part) (f : Facts) (line front after : List ℕ) (at : ℕ) (more : List ℕ) → IsClean line → IsClean front → max_line_bytes < length line + length front
    → going most ps f line at 0 ((front ++ 10 ∷ after) ++ more) ≡ Stop (Bad (faults.LineTooLong at))
line_refused most ps f line front after at more a b lt =
    ap (going most ps f line at 0) (append_assoc front (10 ∷ after) more) ∙ going-too_long most ps f line front at (10 ∷ (after ++ more)) a b lt

pub line_faulty : (most : ℕ) (ps : List Part) (f : Facts) (line front after : List ℕ) (at : ℕ) (more : List ℕ) (e : StreamFault) → IsClean line → IsClean front → length line + length front ≤ max_line_bytes
    → offered most ps f at (line ++ front) ≡ Refuses e → going most ps f line at 0 ((front ++ 10 ∷ after) ++ more) ≡ Stop (Bad e)
line_faulty most ps f line front after at more e a b le h =
    going-took most ps f line front after at more a b le ∙ ap (λ (o : Offered). behind_line most o (at + (length line + length front + 1)) (after ++ more)) h

pub line_ends : (most : ℕ) (ps : List Part) (f : Facts) (line front after : List ℕ) (at : ℕ) (more : List ℕ) (g : Facts) → IsClean line → IsClean front → length line + length front ≤ max_line_bytes
    → offered most ps f at (line ++ front) ≡ Ends g → going most ps f line at 0 ((front ++ 10 ∷ after) ++ more) ≡ Stop (Whole g.rows)
line_ends most ps f line front after at more g a b le h =
    going-took most ps f line front after at more a b le ∙ ap (λ (o : Offered). behind_line most o (at + (length line + length front + 1)) (after ++ more)) h

pub line_goes : (most : ℕ) (ps : List Part) (f : Facts) (line front after : List ℕ) (at : ℕ) (more : List ℕ) (new_most : ℕ) (new_ps : List Part) (g : Facts) (new_line : List ℕ) (new_at n : ℕ)
    → IsClean line → IsClean front → length line + length front ≤ max_line_bytes
    → offered most ps f at (line ++ front) ≡ Goes new_ps n g → new_line ≡ [] → new_most ≡ most → new_at ≡ at + (length line + length front + 1)
    → going most ps f line at 0 ((front ++ 10 ∷ after) ++ more) ≡ going new_most new_ps g new_line new_at n (after ++ more)
line_goes most ps f line front after at more new_most new_ps g new_line new_at n a b le h empty same offset =
    going-took most ps f line front after at more a b le
    ∙ ap (λ (o : Offered). behind_line most o (at + (length line + length front + 1)) (after ++ more)) h
    ∙ going-new most new_ps n g new_line (at + (length line + length front + 1)) (after ++ more) empty
    ∙ ap (λ (p : ℕ). going most new_ps g new_line p n (after ++ more)) (sym offset)
    ∙ ap (λ (m : ℕ). going m new_ps g new_line new_at n (after ++ more)) (sym same)

pub clean-kept : (line front new : List ℕ) → new ≡ line ++ front → IsClean line → IsClean front → IsClean new
clean-kept line front new e a b = subst IsClean (sym e) (clean-append line front a b)

-- a vector that was extended, if there was memory
pub clean-extended : (b : Bool) (line front new : List ℕ) → new ≡ cond b (line ++ front) line → IsClean line → IsClean front → IsClean new
clean-extended true line front new e a h = clean-kept line front new e a h
clean-extended false line front new e a h = subst IsClean (sym e) a

pub length-extended : (b : Bool) (line front new : List ℕ) → new ≡ cond b (line ++ front) line → length new ≤ length line + length front
length-extended true line front new e = omega (arith, ap length e, length-append line front)
length-extended false line front new e = omega (arith, ap length e)

-- ---- one step after another

pub then_leads : (a : Reading) (x : List ℕ) (b : Reading) (y : List ℕ) (c : Reading) (z : List ℕ) → Leads a x b y → Leads b y c z → Leads a x c z
then_leads a x b y c z p q = record { same = λ more. p.same more ∙ q.same more; count = omega (arith, p.count, q.count); most = q.most ∙ p.most }

pub then_faulty : (a : Reading) (x : List ℕ) (b : Reading) (y : List ℕ) (e : StreamFault) → Leads a x b y → Faulty b y e → Faulty a x e
then_faulty a x b y e p q = λ ne more. p.same more ∙ q ne more
