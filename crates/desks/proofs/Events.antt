-- One call of a caller alone with its book is one event.
use Rattle.std.proofs.Common.{◌≡◌, ℕ, ◌<◌, refl, sym, ap, subst, ◌∙◌}
use Rattle.std.specs.Prelude.{Some, None, [], Result}
use Rattle.std.proofs.lemmas.List.{append-nil}
use Rattle.turn_lock.specs.declared.note.Last.{Last}
use Rattle.turn_lock.specs.declared.note.Note.{Note}
use Rattle.book_model.specs.declared.answers.Progress.{Progress}
use Rattle.book_model.specs.declared.answers.Strange.{Strange}
use Rattle.book_model.specs.Jobs.{Outcome}
use Rattle.book_model.specs.Steps.{Finishes}
use Rattle.book_model.proofs.Growing.{finishes-keeps}
use Rattle.book_model.specs.State.{State}
use Rattle.book_model.specs.Sound.{IsSound, Keeps}
use Rattle.book_model.specs.Desk.{Caller, IsEvent, turned}
use Rattle.desks.specs.Alone.{alone_with}

pub event : (does : State → State → Type 0) (found left : State) (busy turns outs more_busy more_turns more_outs : ℕ) (last : Last)
    → does found left → 0 < found.callers → IsSound found → IsSound left → left.settings ≡ found.settings
    → IsEvent does (alone_with found busy turns outs last) (alone_with left more_busy more_turns more_outs (turned last found.note left.note))
event does found left busy turns outs more_busy more_turns more_outs last acts given sound now settings =
    record {
      found = found;
      left = left;
      acts = acts;
      same_settings = refl;
      given = given;
      begins = ([], append-nil found.history);
      own = refl;
      untouched = (refl, refl);
      sound_found = sound;
      sound_left = now;
      lock = refl;
      settings = settings;
      front = refl;
      alone = refl;
      me = refl;
      last = refl;
    }

-- what is handed in is, however the code has what it left
pub handed_in : (done : Outcome) (answer : Result Progress Strange) (found left book : State) (busy turns outs more_busy more_turns more_outs : ℕ) (last now : Last) (note : Note)
    → Finishes 0 done found answer left → 0 < found.callers → IsSound found → IsSound left → book ≡ left → note ≡ found.note → now ≡ turned last note left.note
    → IsEvent (λ s t. Finishes 0 done s answer t) (alone_with found busy turns outs last) (alone_with book more_busy more_turns more_outs now)
handed_in done answer found left book busy turns outs more_busy more_turns more_outs last now note acts given sound later same noted is =
    let keeps : Keeps 0 found left = finishes-keeps 0 done found left answer acts in
    subst (λ (x : State). IsEvent (λ s t. Finishes 0 done s answer t) (alone_with found busy turns outs last) (alone_with x more_busy more_turns more_outs now)) (sym same)
    (subst (λ (x : Last). IsEvent (λ s t. Finishes 0 done s answer t) (alone_with found busy turns outs last) (alone_with left more_busy more_turns more_outs x)) (sym (is ∙ ap (λ (n : Note). turned last n left.note) noted))
    (event (λ s t. Finishes 0 done s answer t) found left busy turns outs more_busy more_turns more_outs last acts given sound later keeps.settings))
