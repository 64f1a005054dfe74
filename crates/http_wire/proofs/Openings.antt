-- From what a search found to what the text is.
use Rattle.std.proofs.Common.{◌≡◌, ℕ, zero, suc, ◌+◌, ◌-◌, ◌<◌, ◌≤◌, true, false, leb, eqb, List, [], ◌∷◌, ◌++◌, length, take, drop, Option, Some, None, length-append, append_assoc, refl, sym, ap, ◌∙◌, arith}
use Rattle.std.specs.Io.KnownBytes.{Keeps, IsAtEnd, prepend_known}
use Rattle.std.proofs.lemmas.List.{take_all, length-take, length-drop, append-nil, drop-append-le, take-append-le, take-append-drop, drop-drop}
use Rattle.std.proofs.lemmas.Bool.Decides.{nat_tests}
use Rattle.httparse.specs.Grammar.{RequestHead}
use Rattle.http_wire.specs.declared.fault.WireFault.TheVariants.{HeadTooLong}
use Rattle.http_wire.specs.declared.opening.Opened.{Opened}
use Rattle.http_wire.specs.declared.opening.Opened.TheVariants as opened_as
use Rattle.http_wire.specs.Ends.{without_line_ends, head_len, front, IsHead}
use Rattle.http_wire.specs.declared.room.Room.{Room}
use Rattle.http_wire.specs.Looks.{HasHead}
use Rattle.http_wire.specs.Requests.{Opening, RefusedHead, EndedBefore, TruncatedHead, OpensAt, Opens, opened, unopened}
use Rattle.http_wire.specs.Opened.{Judges, Tells, TellsOf}

-- the first bytes of two texts
take-both : (n : ℕ) (xs ys : List ℕ) → take n (xs ++ ys) ≡ take n xs ++ take (n - length xs) ys
take-both zero xs ys =
    let e : 0 - length xs ≡ 0 = omega arith in
    rw e refl
take-both (suc n) [] ys =
    let e : suc n - 0 ≡ suc n = omega arith in
    rw e refl
take-both (suc n) (x ∷ xs) ys =
    let e : suc n - suc (length xs) ≡ n - length xs = omega arith in
    rw e (ap (λ (l : List ℕ). x ∷ l) (take-both n xs ys))

front-is : (held left seen : List ℕ) → seen ≡ take 65536 held → front (held ++ left) ≡ without_line_ends (seen ++ take (65536 - length held) left)
unfolding front
front-is held left seen e = ap without_line_ends (take-both 65536 held left ∙ ap (λ (l : List ℕ). l ++ take (65536 - length held) left) (sym e))

opens-at : (room : Room) (n : ℕ) (text : List ℕ) (o : Opening) → head_len (front text) ≡ Some n → OpensAt room text (Some n) o → Opens room text o
opens-at room n text o e h = rw e h

opens-none : (room : Room) (text : List ℕ) (o : Opening) → head_len (front text) ≡ None → o ≡ unopened text → Opens room text o
opens-none room text o e h = rw e h

-- ---- a head was found

pub head-fits : (held seen : List ℕ) (s n : ℕ) → seen ≡ take 65536 held → HasHead seen s n → s + n ≤ length held
head-fits held seen s n e h = omega (arith, h.within, ap length e, length-take 65536 held)

head-ends : (held left seen : List ℕ) (s n : ℕ) → seen ≡ take 65536 held → HasHead seen s n → head_len (front (held ++ left)) ≡ Some n
head-ends held left seen s n e h =
    let more = take (65536 - length held) left in
    ap head_len (front-is held left seen e ∙ h.begins more) ∙ h.ends more

text-begins : (held left seen : List ℕ) (s n : ℕ) → seen ≡ take 65536 held → HasHead seen s n → without_line_ends (held ++ left) ≡ drop s held ++ left
text-begins held left seen s n e h =
    let tail = drop 65536 held in
    let parts : held ≡ seen ++ tail = sym (take-append-drop 65536 held) ∙ ap (λ (l : List ℕ). l ++ tail) (sym e) in
    let le : s ≤ length seen = omega (arith, h.within) in
    ap (λ (l : List ℕ). without_line_ends (l ++ left)) parts ∙ ap without_line_ends (append_assoc seen tail left) ∙ h.begins (tail ++ left)
    ∙ sym (append_assoc (drop s seen) tail left) ∙ ap (λ (l : List ℕ). l ++ left) (sym (drop-append-le s seen tail le) ∙ ap (drop s) (sym parts))

head-bytes : (held left : List ℕ) (s n : ℕ) → s + n ≤ length held → take n (drop s held ++ left) ≡ take n (drop s held)
head-bytes held left s n le = take-append-le n (drop s held) left (omega (arith, length-drop s held))

head-rest : (held left : List ℕ) (s n : ℕ) → s + n ≤ length held → drop n (drop s held ++ left) ≡ drop (s + n) held ++ left
head-rest held left s n le =
    drop-append-le n (drop s held) left (omega (arith, length-drop s held)) ∙ ap (λ (l : List ℕ). l ++ left) (drop-drop n s held)

opens-so : (room : Room) (s n : ℕ) (held left seen : List ℕ) (head : Option RequestHead) (o : Opening) → seen ≡ take 65536 held → HasHead seen s n
    → IsHead (take n (drop s held)) head → o ≡ opened room head (drop (s + n) held ++ left) → Opens room (held ++ left) o
opens-so room s n held left seen head o e h is same =
    let le = head-fits held seen s n e h in
    let begins = text-begins held left seen s n e h in
    opens-at room n (held ++ left) o (head-ends held left seen s n e h) (
      head,
      rw (begins, head-bytes held left s n le) is,
      same ∙ ap (opened room head) (sym (ap (drop n) begins ∙ head-rest held left s n le)),
    )

tells-so : (room : Room) (s n : ℕ) (held left new seen text : List ℕ) (o : Opened) → seen ≡ take 65536 held → HasHead seen s n → held ++ left ≡ text → new ≡ drop (s + n) held
    → Judges room (take n (drop s held)) o → Tells room text o new (Some (new ++ left))
tells-so room s n held left new seen text (opened_as.Head r f w) e h t d j =
    (drop (s + n) held ++ left, ap (λ (l : List ℕ). Some (l ++ left)) d, rw (← t) (opens-so room s n held left seen (Some j.0) _ e h j.1 (sym (j.2 (drop (s + n) held ++ left)))))
tells-so room s n held left new seen text (opened_as.Refused x) e h t d j =
    rw (← t) (opens-so room s n held left seen j.0 _ e h j.1 (sym (j.2 (drop (s + n) held ++ left))))
tells-so room s n held left new seen text opened_as.Ended e h t d j = absurd j
tells-so room s n held left new seen text opened_as.Truncated e h t d j = absurd j
tells-so room s n held left new seen text opened_as.ReadFault e h t d j = absurd j
tells-so room s n held left new seen text opened_as.Memory e h t d j = tt

pub tells-head : (room : Room) (s n : ℕ) (before left : Option (List ℕ)) (held new : List ℕ) (o : Opened) → HasHead (take 65536 held) s n → Keeps before (prepend_known held left) → new ≡ drop (s + n) held
    → Judges room (take n (drop s held)) o → TellsOf room before o new (prepend_known new left)
tells-head room s n None left held new o h k d j = tt
tells-head room s n (Some text) None held new o h k d j = absurd k
tells-head room s n (Some text) (Some left) held new o h k d j = tells-so room s n held left new (take 65536 held) text o refl h k d j

-- ---- no head was found

too-long : (text : List ℕ) → 65536 ≤ length text → RefusedHead HeadTooLong ≡ unopened text
unfolding unopened
too-long text le =
    let e : leb 65536 (length text) ≡ true = grind (arith, nat_tests) in
    rw e refl

ended : (text : List ℕ) → length text < 65536 → without_line_ends text ≡ [] → EndedBefore ≡ unopened text
unfolding unopened
ended text lt z =
    let e : leb 65536 (length text) ≡ false = grind (arith, nat_tests) in
    rw (e, z) refl

truncated : (text : List ℕ) → length text < 65536 → 0 < length (without_line_ends text) → TruncatedHead ≡ unopened text
unfolding unopened
truncated text lt some =
    let e : leb 65536 (length text) ≡ false = grind (arith, nat_tests) in
    let n : eqb (length (without_line_ends text)) 0 ≡ false = grind (arith, nat_tests) in
    rw (e, n) refl

front-full : (held left : List ℕ) → 65536 ≤ length held → front (held ++ left) ≡ without_line_ends (take 65536 held)
unfolding front
front-full held left le = ap without_line_ends (take-append-le 65536 held left le)

front-all : (text : List ℕ) → length text < 65536 → front text ≡ without_line_ends text
unfolding front
front-all text lt = ap without_line_ends (take_all 65536 text (omega arith))

pub tells-too_long : (room : Room) (before left : Option (List ℕ)) (held : List ℕ) → head_len (without_line_ends (take 65536 held)) ≡ None → length (take 65536 held) ≡ 65536
    → Keeps before (prepend_known held left) → TellsOf room before (opened_as.Refused HeadTooLong) held (prepend_known held left)
tells-too_long room None left held e n k = tt
tells-too_long room (Some text) None held e n k = absurd k
tells-too_long room (Some text) (Some left) held e n k =
    let le : 65536 ≤ length held = omega (arith, n, length-take 65536 held) in
    rw (← k) (opens-none room (held ++ left) _ (ap head_len (front-full held left le) ∙ e) (too-long (held ++ left) (omega (arith, length-append held left))))

-- the text is what is held
whole : (held left text : List ℕ) → length (take 65536 held) < 65536 → left ≡ [] → held ++ left ≡ text → (length text < 65536) × (take 65536 held ≡ text)
whole held left text lt z k =
    let short : length held < 65536 = omega (arith, length-take 65536 held) in
    let same : held ≡ text = sym (append-nil held) ∙ ap (λ (l : List ℕ). held ++ l) (sym z) ∙ k in
    (omega (arith, ap length same), take_all 65536 held (omega arith) ∙ same)

pub tells-ended : (room : Room) (before left : Option (List ℕ)) (held : List ℕ) → without_line_ends (take 65536 held) ≡ [] → length (take 65536 held) < 65536 → IsAtEnd left
    → Keeps before (prepend_known held left) → TellsOf room before opened_as.Ended held (prepend_known held left)
tells-ended room None left held e lt z k = tt
tells-ended room (Some text) None held e lt z k = absurd k
tells-ended room (Some text) (Some left) held e lt z k =
    let w = whole held left text lt z k in
    let none : without_line_ends text ≡ [] = ap without_line_ends (sym w.1) ∙ e in
    opens-none room text _ (ap head_len (front-all text w.0 ∙ none)) (ended text w.0 none)

pub tells-truncated : (room : Room) (before left : Option (List ℕ)) (held : List ℕ) → head_len (without_line_ends (take 65536 held)) ≡ None → 0 < length (without_line_ends (take 65536 held))
    → length (take 65536 held) < 65536 → IsAtEnd left → Keeps before (prepend_known held left) → TellsOf room before opened_as.Truncated held (prepend_known held left)
tells-truncated room None left held e some lt z k = tt
tells-truncated room (Some text) None held e some lt z k = absurd k
tells-truncated room (Some text) (Some left) held e some lt z k =
    let w = whole held left text lt z k in
    let l : length (without_line_ends text) ≡ length (without_line_ends (take 65536 held)) = ap (λ (t : List ℕ). length (without_line_ends t)) (sym w.1) in
    opens-none room text _ (ap head_len (front-all text w.0) ∙ ap (λ (t : List ℕ). head_len (without_line_ends t)) (sym w.1) ∙ e) (truncated text w.0 (omega (arith, l)))

-- ---- a read fault

-- no head has ended in what is held
pub tells-fault : (room : Room) (before left : Option (List ℕ)) (held : List ℕ) → head_len (without_line_ends (take 65536 held)) ≡ None
    → Keeps before (prepend_known held left) → TellsOf room before opened_as.ReadFault held (prepend_known held left)
unfolding front
tells-fault room None left held e k = tt
tells-fault room (Some text) None held e k = absurd k
tells-fault room (Some text) (Some left) held e k = (ap Some k, e)
