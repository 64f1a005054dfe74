-- The answer to an input that was read from a source.
use Rattle.std.proofs.Common.{◌≡◌, ℕ, ◌<◌, ◌≤◌, nat_lt, true, false, List, length, Option, Some, None, Result, Ok, Err, refl, sym, ap, subst, ◌∙◌, arith, inl, inr}
use Rattle.std.specs.Prelude.{IfOk, IfSome, IsOk}
use Rattle.std.specs.Io.KnownBytes.{IsAtEnd}
use Rattle.std.proofs.lemmas.Bool.{false≢true}
use Rattle.std.proofs.lemmas.Bool.Decides.{nat_tests}
use Rattle.osv_prim.specs.Results.{each}
use Rattle.osv_prim.specs.declared.subject.Subject.{Subject}
use Rattle.osv_record.specs.Advisories.{Advisory}
use Rattle.evaluate.specs.Hits.{Repo}
use Rattle.line_input.specs.Reader.{StandsIn}
use Rattle.line_input.specs.declared.stop.ReadStop.{ReadStop}
use Rattle.line_input.specs.declared.reader.LineReader.{LineReader}
use Rattle.ask.specs.Asked.{answer, answer_to_parts, asked, ids_output, parts}
use Rattle.ask.specs.Commits.{refused_commits, repos_of}
use Rattle.ask.specs.Line.{read_line, refused_line}
use Rattle.ask.specs.Outputs.{IsAnswer, refusal, too_large, within}
use Rattle.ask.specs.Parts.{Parts}
use Rattle.ask.specs.Stops.{Finds, Stops}
use Rattle.ask.specs.declared.commits.CommitFault.{CommitFault}
use Rattle.ask.specs.declared.line.LineFault.{LineFault}
use Rattle.ask.specs.declared.output.Output.{Output}
use Rattle.ask.specs.declared.stop.InputStop.{InputStop}
use Rattle.ask.specs.declared.stop.InputStop.TheVariants.{Line, Commits, TooLarge}

module _ (answer : List ℕ → Output) (limit : ℕ) where
  pub at_most : (xs : List ℕ) → length xs ≤ limit → answer xs ≡ within limit answer xs
  at_most xs le = let e : nat_lt limit (length xs) ≡ false = grind (arith, nat_tests) in rw e refl

  pub beyond : (xs : List ℕ) → limit < length xs → too_large limit ≡ within limit answer xs
  beyond xs lt = let e : nat_lt limit (length xs) ≡ true = grind (arith, nat_tests) in rw e refl

-- where the source tells what it has
pub where_known : {P : List ℕ → Type 0} (first : Option (List ℕ)) → ((xs : List ℕ) → first ≡ Some xs → P xs) → IfSome first P
where_known None h = tt
where_known (Some xs) h = h xs refl

module _ (subject : Subject) (limit : ℕ) (lo ln : Option (List ℕ)) (r : LineReader) (o : Output) where
  stands : ((xs : List ℕ) → StandsIn xs r (Some xs)) → (input : List ℕ) → lo ≡ Some input → StandsIn input r lo
  stands front input is = subst (λ (l : Option (List ℕ)). StandsIn input r l) (sym is) (front input)

  pub answers_ids : (ids : List (List ℕ)) → ((xs : List ℕ) → StandsIn xs r (Some xs)) → r.limit ≡ limit
      → ((input : List ℕ) → StandsIn input r lo → Finds input (parts subject input) r.limit subject ids) → IsAtEnd ln → o ≡ ids_output ids → IsAnswer (within limit (asked subject)) lo ln o
  unfolding asked
  answers_ids ids front l finds end e = record {
    whole = where_known lo (λ input is.
        let f = finds input (stands front input is) in e ∙ sym f.answer ∙ at_most (λ xs. answer_to_parts subject (parts subject xs)) limit input (omega (arith, f.within, l)));
    end = λ z. end;
    status = inl (ap (λ (x : Output). x.status) e);
  }

  pub answers_told : (stop : InputStop) (new : LineReader) → ((xs : List ℕ) → StandsIn xs r (Some xs)) → r.limit ≡ limit → new.limit ≡ r.limit
      → ((input : List ℕ) → StandsIn input r lo → Stops input (parts subject input) stop new ln)
      → ((input : List ℕ) → (p : Parts) → (asks : Subject) → Stops input p stop new ln → o ≡ within new.limit (λ _. answer_to_parts asks p) input)
      → o.status ≡ 5 → (after : Option (List ℕ)) → IsAnswer (within limit (asked subject)) lo after o
  unfolding asked
  answers_told stop new front l n stops told five after = record {
    whole = where_known lo (λ input is.
        told input (parts subject input) subject (stops input (stands front input is))
        ∙ ap (λ (k : ℕ). within k (λ _. answer_to_parts subject (parts subject input)) input) (n ∙ l));
    end = λ z. absurd (omega (arith, five, z));
    status = inr five;
  }

module _ (subject : Subject) (limit : ℕ) (lo ln after : Option (List ℕ)) (r new : LineReader) (stop : InputStop) where
  pub answers_stop : (result : Result Output ReadStop) → ((xs : List ℕ) → StandsIn xs r (Some xs)) → r.limit ≡ limit → new.limit ≡ r.limit
      → ((input : List ℕ) → StandsIn input r lo → Stops input (parts subject input) stop new ln)
      → IfOk result (λ o. (input : List ℕ) → (p : Parts) → (asks : Subject) → Stops input p stop new ln → o ≡ within new.limit (λ _. answer_to_parts asks p) input)
      → IfOk result (λ o. o.status ≡ 5) → IfOk result (IsAnswer (within limit (asked subject)) lo after)
  answers_stop (Ok o) front l n stops told five = answers_told subject limit lo ln r o stop new front l n stops told five after
  answers_stop (Err s) front l n stops told five = tt

-- ---- an input that is not answered by ids

pub told_beyond : (limit : ℕ) (input : List ℕ) (a o : Output) → limit < length input → o ≡ too_large limit → o ≡ within limit (λ _. a) input
told_beyond limit input a o lt e = e ∙ beyond (λ _. a) limit input lt

pub told_within : (limit : ℕ) (input : List ℕ) (a o : Output) → length input ≤ limit → o ≡ a → o ≡ within limit (λ _. a) input
told_within limit input a o le e = e ∙ at_most (λ _. a) limit input le

no_graph : (asks : Subject) (read : Result (List Advisory) LineFault) (e : CommitFault) → IsOk read → refusal (refused_commits e) ≡ answer asks read (Err e)
no_graph asks (Ok imports) e ok = refl
no_graph asks (Err x) e ok = absurd (false≢true ok)

module _ (input : List ℕ) (p : Parts) (asks : Subject) (r : LineReader) (left : Option (List ℕ)) (o : Output) where
  pub tells_line : (e : LineFault) → Stops input p (Line e) r left → (StandsIn input r left → o ≡ within r.limit (λ _. refusal (refused_line e)) input)
      → o ≡ within r.limit (λ _. answer_to_parts asks p) input
  tells_line e s t = t s.1 ∙ ap (λ (read : Result (List Advisory) LineFault). within r.limit (λ _. answer asks read (repos_of p.repo)) input) (sym s.0)

  pub tells_commits : (e : CommitFault) → Stops input p (Commits e) r left → o ≡ refusal (refused_commits e) → o ≡ within r.limit (λ _. answer_to_parts asks p) input
  tells_commits e s t =
      told_within r.limit input (answer_to_parts asks p) o s.2
      (t ∙ no_graph asks (each read_line p.advisories) e s.0 ∙ ap (λ (repos : Result (List Repo) CommitFault). answer asks (each read_line p.advisories) repos) (sym s.1))

  pub tells_beyond : Stops input p TooLarge r left → o ≡ too_large r.limit → o ≡ within r.limit (λ _. answer_to_parts asks p) input
  tells_beyond s t = told_beyond r.limit input (answer_to_parts asks p) o s t
