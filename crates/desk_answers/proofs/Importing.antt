-- The answer to an import.
use Rattle.std.proofs.Common.{◌≡◌, inl, inr, ℕ, Bool, sym, ap, subst, ◌∙◌, arith}
use Rattle.std.specs.Prelude.{Result, Ok, Err}
use Rattle.osv_prim.specs.declared.memory.Memory.{Memory}
use Rattle.osv_record.specs.Advisories.{Advisory}
use Rattle.osv_record.specs.Reading.{advisory}
use Rattle.osv_record.specs.declared.fault.RecordFault.{RecordFault}
use Rattle.history.specs.Entries.{weight}
use Rattle.book_model.specs.Desk.{Caller}
use Rattle.http_wire.specs.declared.reply.Reply.{Reply}
use Rattle.http_wire.specs.declared.request.Request.{Request}
use Rattle.reply_json.specs.declared.refusal.Refusal.TheVariants as refusals
use Rattle.session_model.specs.declared.route.Route.TheVariants as routes
use Rattle.session_model.specs.declared.sign.Sign.{Sign}
use Rattle.session_model.specs.declared.sign.Sign.TheVariants as signs
use Rattle.session_model.specs.Answers.{ImportAnswers, AnswersAt}
use Rattle.session_model.specs.Counts.{Rises, Counts, OutsAre}
use Rattle.session_model.specs.Replies.{refusal_reply}
use Rattle.session_model.specs.Runs.{RepliedAt, UnansweredAt}
use Rattle.session_model.proofs.Counting.{rises-less}
use Rattle.desk_calls.specs.Calls.{Still}
use Rattle.desk_calls.proofs.Alone.{same-front}
use Rattle.desk_answers.specs.Gives.{GivesAt}
use Rattle.desk_answers.specs.Shown.{EntersAs, ImportsAs}
use Rattle.desk_answers.specs.declared.reply.Answered.{Answered}

plain-counts : (sign : Sign) (old new : Caller) → sign ≡ signs.Plain → Rises 0 0 1 old new → Counts sign old new
plain-counts sign old new e p = subst (λ (g : Sign). Counts g old new) (sym e) (rises-less old new 0 0 1 0 0 0 (omega arith) (omega arith) (omega arith) p)

plain-outs : (sign : Sign) (old new : Caller) → sign ≡ signs.Plain → new.outs ≡ old.outs → OutsAre sign old new
plain-outs sign old new e k = subst (λ (g : Sign). OutsAre g old new) (sym e) k

import-by : (old new : Caller) (closes : Bool) (q : Request) (asked : Result Advisory RecordFault) (sign : Sign) (reply : Reply) → advisory q.body ≡ asked
    → ImportAnswers old.settings closes old.me old.front new.front asked sign reply → AnswersAt old.settings closes old.me old.front new.front q routes.Import sign reply
import-by old new closes q asked sign reply e a = subst (λ (x : Result Advisory RecordFault). ImportAnswers old.settings closes old.me old.front new.front x sign reply) (sym e) a

entered-replied : (old new : Caller) (closes : Bool) (q : Request) (r : Advisory) (a : Answered) → advisory q.body ≡ Ok r → EntersAs old new closes r a → RepliedAt old new closes q routes.Import a.sign a.reply
entered-replied old new closes q r a e (inl p) = record {
  goes = p.1.goes;
  answers = import-by old new closes q (Ok r) a.sign a.reply e (p.2, inl (p.0, p.1.adds, p.1.within, p.3));
  counts = plain-counts a.sign old new p.2 p.1.rises;
  outs = plain-outs a.sign old new p.2 p.1.outs;
  apart = p.1.apart;
  alone = λ h. record { still = p.1.alone h; tells = tt };
}
entered-replied old new closes q r a e (inr p) =
    let f = p.2 in
    let told = p.4 ∙ ap (λ (n : ℕ). refusal_reply closes (refusals.JournalFull n p.1)) f.used_is ∙ ap (λ (n : ℕ). refusal_reply closes (refusals.JournalFull (weight new.front) n)) f.limit_is in
    record {
      goes = f.quiet.still.goes;
      answers = import-by old new closes q (Ok r) a.sign a.reply e (p.3, inr (f.quiet.still.none, f.passes, told));
      counts = plain-counts a.sign old new p.3 f.quiet.rises;
      outs = plain-outs a.sign old new p.3 f.quiet.outs;
      apart = f.quiet.still.apart;
      alone = λ h. record { still = f.quiet.alone h; tells = tt };
    }

unanswered : (old new : Caller) → Still old new → UnansweredAt old new routes.Import
unanswered old new k = record { goes = k.goes; leaves = k.none; apart = k.apart; alone = λ h. same-front old new k h }

pub import-entered : (old new : Caller) (closes : Bool) (q : Request) (r : Advisory) (a : Result Answered Memory) → advisory q.body ≡ Ok r → ImportsAs old new closes r a → GivesAt old new closes q routes.Import a
import-entered old new closes q r (Ok a) e p = entered-replied old new closes q r a e p
import-entered old new closes q r (Err x) e p = unanswered old new p
