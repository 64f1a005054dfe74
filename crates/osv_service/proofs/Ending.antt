-- How a run ends.
use Rattle.std.proofs.Common.{◌≡◌, ◌≢◌, ◌⊎◌, ℕ, List, Option, Some, None, refl, sym, ap, subst, ◌∙◌, arith, inl, inr, Result, Ok, Err}
use Rattle.std.specs.Prelude.{IfOk, IfSome, IsErrOf}
use Rattle.std.specs.Io.KnownBytes.{Appends, Keeps}
use Rattle.std.proofs.lemmas.Bool.{cases_lt}
use Rattle.edge_io.specs.Causes.{Rose}
use Rattle.line_input.specs.declared.stop.ReadStop.{ReadStop}
use Rattle.line_input.specs.declared.stop.ReadStop.TheVariants.{Source, Memory}
use Rattle.ask.specs.Outputs.{IsAnswer, within}
use Rattle.ask.specs.declared.output.Output.{Output}
use Rattle.ask.specs.Asked.{asked}
use Rattle.ask.specs.Checked.{checked}
use Rattle.command_line.specs.declared.command.Command.{Command}
use Rattle.command_line.specs.declared.command.Command.TheVariants.{Ask, Check, Replay, Serve, Drill}
use Rattle.osv_prim.specs.declared.subject.Subject.{Subject}
use Rattle.settings.specs.declared.Settings.{Settings}
use Rattle.drill.specs.Drilled.{drilled}
use Rattle.osv_service.specs.Run.{WritesFront, Prints, Declines, Does, Answers, Ends, FailsFirst, Replays, Untouched}

four_or_not : (n : ℕ) → (n ≡ 4) ⊎ (n ≢ 4)
four_or_not n =
    elim (cases_lt n 4) [
      | inl lt ↦ inr (λ e. omega arith)
      | inr le ↦ elim (cases_lt 4 n) [ inl lt ↦ inr (λ e. omega arith) | inr ge ↦ inl (omega arith) ]
    ]

known_of : (answer : List ℕ → Output) (o : Output) (old held_old held_new : Option (List ℕ)) (status : ℕ) → IfSome old (λ xs. o ≡ answer xs)
    → status ≡ o.status → Appends held_old held_new o.bytes → IfSome old (λ xs. (status ≡ (answer xs).status) × Appends held_old held_new (answer xs).bytes)
known_of answer o None held_old held_new status is e w = tt
known_of answer o (Some xs) held_old held_new status is e w = (e ∙ ap (λ (b : Output). b.status) is, subst (λ (b : Output). Appends held_old held_new b.bytes) is w)

front_of : (answer : List ℕ → Output) (o : Output) (old held_old held_new : Option (List ℕ)) → IfSome old (λ xs. o ≡ answer xs)
    → WritesFront held_old held_new o.bytes → IfSome old (λ xs. WritesFront held_old held_new (answer xs).bytes)
front_of answer o None held_old held_new is w = tt
front_of answer o (Some xs) held_old held_new is w = subst (λ (b : Output). WritesFront held_old held_new b.bytes) is w

one_of : (status known : ℕ) → (status ≢ 4 → status ≡ known) → (known ≡ 0) ⊎ (known ≡ 5) → (status ≡ 0) ⊎ (status ≡ 5) ⊎ (status ≡ 3) ⊎ (status ≡ 4) ⊎ (status ≡ 6)
one_of status known same either =
    elim (four_or_not status) [
      | inl e ↦ inr (inr (inr (inl e)))
      | inr ne ↦ elim either [ inl z ↦ inl (same ne ∙ z) | inr f ↦ inr (inl (same ne ∙ f)) ]
    ]

not_four : (n : ℕ) → (n ≡ 0) ⊎ (n ≡ 5) → n ≢ 4
not_four n (inl z) = λ e. omega arith
not_four n (inr f) = λ e. omega arith

neither : (status known other : ℕ) → (status ≢ 4 → status ≡ known) → (known ≡ 0) ⊎ (known ≡ 5) → status ≡ other → (other ≡ 3) ⊎ (other ≡ 6) → ⊥
neither status known other same (inl z) e (inl o) = let ne : status ≢ 4 = λ f. omega arith in omega (arith, same ne)
neither status known other same (inl z) e (inr o) = let ne : status ≢ 4 = λ f. omega arith in omega (arith, same ne)
neither status known other same (inr z) e (inl o) = let ne : status ≢ 4 = λ f. omega arith in omega (arith, same ne)
neither status known other same (inr z) e (inr o) = let ne : status ≢ 4 = λ f. omega arith in omega (arith, same ne)

other_status : (status n : ℕ) → status ≡ n → (n ≡ 3) ⊎ (n ≡ 6) → (status ≡ 0) ⊎ (status ≡ 5) → ⊥
other_status status n e (inl three) (inl z) = omega arith
other_status status n e (inl three) (inr f) = omega arith
other_status status n e (inr six) (inl z) = omega arith
other_status status n e (inr six) (inr f) = omega arith

-- a source that was read, and what came of the output
pub answers_by : (answer : List ℕ → Output) (r : Result Output ReadStop) (status : ℕ) (old new held_old held_new : Option (List ℕ)) (sb sn kb kn : ℕ)
    → IfOk r (λ o. IsAnswer answer old new o) → (IsErrOf r Source → Rose sb sn) → Ends r status held_old held_new kb kn
    → Answers answer status old new held_old held_new sb sn kb kn
answers_by answer (Ok o) status old new held_old held_new sb sn kb kn a rose w =
    record {
      answers = one_of status o.status w.same a.status;
      whole = λ h. known_of answer o old held_old held_new status a.whole (w.same (not_four status h)) (w.whole (not_four status h));
      end = λ z. a.end (sym (w.same (not_four status (inl z))) ∙ z);
      source_fault = λ e. absurd (neither status o.status 3 w.same a.status e (inl refl));
      nothing = λ e. absurd (neither status o.status 3 w.same a.status e (inl refl));
      sink_fault = w.fault;
      front = λ e. front_of answer o old held_old held_new a.whole w.front;
      no_memory = λ e. absurd (neither status o.status 6 w.same a.status e (inr refl));
    }
answers_by answer (Err Source) status old new held_old held_new sb sn kb kn a rose w =
    let three : status ≡ 3 = w.0 in
    record {
      answers = inr (inr (inl three));
      whole = λ h. absurd (other_status status 3 three (inl refl) h);
      end = λ z. absurd (other_status status 3 three (inl refl) (inl z));
      source_fault = λ e. rose refl;
      nothing = λ e. w.1;
      sink_fault = λ e. absurd (omega (arith, three, e));
      front = λ e. absurd (omega (arith, three, e));
      no_memory = λ e. absurd (omega (arith, three, e));
    }
answers_by answer (Err Memory) status old new held_old held_new sb sn kb kn a rose w =
    let six : status ≡ 6 = w.0 in
    record {
      answers = inr (inr (inr (inr six)));
      whole = λ h. absurd (other_status status 6 six (inr refl) h);
      end = λ z. absurd (other_status status 6 six (inr refl) (inl z));
      source_fault = λ e. absurd (omega (arith, six, e));
      nothing = λ e. absurd (omega (arith, six, e));
      sink_fault = λ e. absurd (omega (arith, six, e));
      front = λ e. absurd (omega (arith, six, e));
      no_memory = λ e. w.1;
    }

pub does_ask : (c : Command) (subject : Subject) (limit status : ℕ) (old new held_old held_new : Option (List ℕ)) (sb sn kb kn : ℕ) → c ≡ Ask subject limit
    → Answers (within limit (asked subject)) status old new held_old held_new sb sn kb kn → Does c status old new held_old held_new sb sn kb kn
does_ask c subject limit status old new held_old held_new sb sn kb kn is a = subst (λ (x : Command). Does x status old new held_old held_new sb sn kb kn) (sym is) a

pub does_check : (c : Command) (limit status : ℕ) (old new held_old held_new : Option (List ℕ)) (sb sn kb kn : ℕ) → c ≡ Check limit
    → Answers (within limit checked) status old new held_old held_new sb sn kb kn → Does c status old new held_old held_new sb sn kb kn
does_check c limit status old new held_old held_new sb sn kb kn is a = subst (λ (x : Command). Does x status old new held_old held_new sb sn kb kn) (sym is) a

pub does_replay : (c : Command) (settings : Settings) (status : ℕ) (old new held_old held_new : Option (List ℕ)) (sb sn kb kn : ℕ) → c ≡ Replay settings
    → Replays settings status old new held_old held_new sb sn kb kn ⊎ FailsFirst status old new held_old held_new sb sn → Does c status old new held_old held_new sb sn kb kn
does_replay c settings status old new held_old held_new sb sn kb kn is r = subst (λ (x : Command). Does x status old new held_old held_new sb sn kb kn) (sym is) r

pub does_serve : (c : Command) (settings : Settings) (lanes helpers : ℕ) (address : List ℕ) (status : ℕ) (old new held_old held_new : Option (List ℕ)) (sb sn kb kn : ℕ) → c ≡ Serve settings lanes helpers address
    → Declines status held_old held_new kb kn × Untouched old new sb sn → Does c status old new held_old held_new sb sn kb kn
does_serve c settings lanes helpers address status old new held_old held_new sb sn kb kn is d = subst (λ (x : Command). Does x status old new held_old held_new sb sn kb kn) (sym is) d

pub does_drill : (c : Command) (seed size status : ℕ) (old new held_old held_new : Option (List ℕ)) (sb sn kb kn : ℕ) → c ≡ Drill seed size → Untouched old new sb sn
    → Prints (drilled seed size) 0 status held_old held_new kb kn → Does c status old new held_old held_new sb sn kb kn
does_drill c seed size status old new held_old held_new sb sn kb kn is same p = subst (λ (x : Command). Does x status old new held_old held_new sb sn kb kn) (sym is) (p, same)

-- a text that was written whole, or a front of it
pub prints_by : (status its : ℕ) (text known : List ℕ) (held_old held_new : Option (List ℕ)) (kb kn : ℕ) → (its ≡ 0) ⊎ (its ≡ 2) → text ≡ known
    → (status ≢ 4 → Appends held_old held_new text) → (status ≢ 4 → status ≡ its) → WritesFront held_old held_new text → (status ≡ 4 → Rose kb kn)
    → Prints known its status held_old held_new kb kn
prints_by status its text known held_old held_new kb kn small e whole same front fault =
    record {
      answers = elim (four_or_not status) [ inl f ↦ inr (inl f) | inr ne ↦ inl (same ne) ];
      whole = λ i. subst (λ (t : List ℕ). Appends held_old held_new t) e (whole (λ f. no_more its small (sym i ∙ f) (inl refl)));
      sink_fault = fault;
      front = λ f. subst (λ (t : List ℕ). WritesFront held_old held_new t) e front;
      no_memory = λ six. absurd (no_more its small (sym (same (λ f. omega (arith, six, f))) ∙ six) (inr refl));
    }
  where
    no_more : {n : ℕ} (its : ℕ) → (its ≡ 0) ⊎ (its ≡ 2) → its ≡ n → (n ≡ 4) ⊎ (n ≡ 6) → ⊥
    no_more its (inl z) e (inl f) = omega (arith, z, e, f)
    no_more its (inl z) e (inr s) = omega (arith, z, e, s)
    no_more its (inr z) e (inl f) = omega (arith, z, e, f)
    no_more its (inr z) e (inr s) = omega (arith, z, e, s)

-- want of memory before anything was written
pub prints_nothing : (status its : ℕ) (text : List ℕ) (held_old held_new : Option (List ℕ)) (kb kn : ℕ) → (its ≡ 0) ⊎ (its ≡ 2) → status ≡ 6 → Keeps held_old held_new → Prints text its status held_old held_new kb kn
prints_nothing status its text held_old held_new kb kn (inl z) six kept = record { answers = inr (inr six); whole = λ i. absurd (omega (arith, z, i, six)); sink_fault = λ f. absurd (omega (arith, f, six)); front = λ f. absurd (omega (arith, f, six)); no_memory = λ s. kept }
prints_nothing status its text held_old held_new kb kn (inr z) six kept = record { answers = inr (inr six); whole = λ i. absurd (omega (arith, z, i, six)); sink_fault = λ f. absurd (omega (arith, f, six)); front = λ f. absurd (omega (arith, f, six)); no_memory = λ s. kept }
