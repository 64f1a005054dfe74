-- Where the text ends.
use Rattle.std.proofs.Common.{◌≡◌, ℕ, ◌<◌, ◌≤◌, Bool, true, false, cond, not, ◌&&◌, List, [], ◌++◌, length, refl, ap, ◌∙◌, arith, inl, inr}
use Rattle.std.proofs.lemmas.Bool.{cases_lt}
use Rattle.std.proofs.lemmas.List.{append-nil, nil_from_length}
use Rattle.fast_export.specs.declared.grammar.Part.{Part}
use Rattle.fast_export.specs.declared.reading.Reading.{Reading}
use Rattle.fast_export.specs.Lines.{IsClean, max_line_bytes}
use Rattle.fast_export.specs.Facts.{Facts, start, rows_of}
use Rattle.fast_export.specs.Stream.{Step, Stop, ◌>>=◌, Outcome, Whole, Short, all, command, at_end, outcome, stream, IsNoFault}
use Rattle.fast_export.specs.Commits.{facts_of}
use Rattle.fast_export.specs.Following.{left, may_end_at}
use Rattle.fast_export.specs.Reading.{going, resume}
use Rattle.fast_export.proofs.Cuts.{line-cut, line-nothing}
use Rattle.fast_export.proofs.Left.{left-cut, left-nothing, parts-none}
use Rattle.fast_export.proofs.Resumes.{going-line, too_short}

pub end_skip : (most : ℕ) (ps : List Part) (f : Facts) (line : List ℕ) (at skip : ℕ) → 0 < skip → going most ps f line at skip [] ≡ Stop Short
unfolding going
end_skip most ps f line at skip lt = ap (λ (s : Step). s >>= λ g offset rest. left most ps g offset (line ++ rest)) (too_short skip f at [] lt)

pub end_line : (most : ℕ) (ps : List Part) (f : Facts) (line : List ℕ) (at : ℕ) → IsClean line → length line ≤ max_line_bytes → 0 < length line → going most ps f line at 0 [] ≡ Stop Short
end_line most ps f line at clean le lt =
    going-line most ps f line at [] ∙ ap (left most ps f at) (append-nil line) ∙ left-cut most ps f at line (line-cut line clean le lt)

pub end_none : (most : ℕ) (ps : List Part) (f : Facts) (line : List ℕ) (at : ℕ) → line ≡ [] → going most ps f line at 0 [] ≡ Stop (at_end (may_end_at ps) f)
end_none most ps f line at e =
    going-line most ps f line at [] ∙ ap (left most ps f at) (append-nil line ∙ e) ∙ left-nothing most ps f at [] line-nothing

at_start : (most : ℕ) (ps : List Part) (f : Facts) (line : List ℕ) (text : List ℕ) → ps ≡ [] → f ≡ start → line ≡ [] → left most ps f 0 (line ++ text) ≡ all (command most) start 0 text
at_start most ps f line text a b c = rw (a, b, c) (parts-none most start 0 text)

pub starts : (most : ℕ) (ps : List Part) (f : Facts) (line : List ℕ) (text : List ℕ) → ps ≡ [] → f ≡ start → line ≡ [] → outcome (going most ps f line 0 0 text) ≡ stream text most
unfolding stream
starts most ps f line text a b c = ap outcome (going-line most ps f line 0 text ∙ at_start most ps f line text a b c)

-- ---- no fault without more of the text

whole_or_short : (b : Bool) (f : Facts) → IsNoFault (at_end b f)
whole_or_short true f = cases f.promised
  where
    cases : (p : Bool) → IsNoFault (cond (not p) (Whole (rows_of f)) Short)
    cases true = tt
    cases false = tt
whole_or_short false f = tt

no_fault : (o : Outcome) (s : Step) → s ≡ Stop o → IsNoFault o → IsNoFault (outcome s)
no_fault o s e h = rw e h

going-no_fault : (most : ℕ) (ps : List Part) (f : Facts) (line : List ℕ) (at skip : ℕ) → IsClean line → length line ≤ max_line_bytes → IsNoFault (outcome (going most ps f line at skip []))
going-no_fault most ps f line at skip clean le =
    elim (cases_lt 0 skip) [
      | inl lt ↦ no_fault Short _ (end_skip most ps f line at skip lt) tt
      | inr none ↦
          let zero : skip ≡ 0 = omega arith in
          rw zero (elim (cases_lt 0 (length line)) [
            | inl lt ↦ no_fault Short _ (end_line most ps f line at clean le lt) tt
            | inr empty ↦ no_fault (at_end (may_end_at ps) f) _ (end_none most ps f line at (nil_from_length line (omega arith))) (whole_or_short (may_end_at ps) f)
          ])
    ]

over-or-going : (b : Bool) (s t : Step) → IsNoFault (outcome s) → IsNoFault (outcome t) → IsNoFault (outcome (cond b s t))
over-or-going true s t h k = h
over-or-going false s t h k = k

pub resume-no_fault : (r : Reading) → IsNoFault (outcome (resume r []))
resume-no_fault r =
    over-or-going r.ended (Stop (Whole r.commands.commits.rows)) _ tt
    (going-no_fault r.commands.most r.commands.parts.now (facts_of r.commands.commits) r.line.items r.at r.skip r.clean r.short)

pub whole_end : (may : Bool) (f : Facts) → (may && not f.promised) ≡ true → at_end may f ≡ Whole (rows_of f)
whole_end may f h = rw h refl

pub short_end : (may : Bool) (f : Facts) → (may && not f.promised) ≡ false → at_end may f ≡ Short
short_end may f h = rw h refl
