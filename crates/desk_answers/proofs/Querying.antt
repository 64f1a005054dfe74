-- The answer to a query.
use Rattle.std.proofs.Common.{◌≡◌, ℕ, Bool, sym, subst}
use Rattle.std.specs.Prelude.{Option, Some, Result, Ok, Err}
use Rattle.osv_prim.specs.declared.memory.Memory.{Memory}
use Rattle.book_model.specs.Desk.{Caller}
use Rattle.http_wire.specs.declared.reply.Reply.{Reply}
use Rattle.http_wire.specs.declared.request.Request.{Request}
use Rattle.query_json.specs.Queries.{query}
use Rattle.query_json.specs.declared.query.Query.{Query}
use Rattle.query_json.specs.declared.fault.QueryFault.{QueryFault}
use Rattle.session_model.specs.declared.route.Route.TheVariants as routes
use Rattle.session_model.specs.declared.sign.Sign.{Sign}
use Rattle.session_model.specs.declared.sign.Sign.TheVariants as signs
use Rattle.session_model.specs.Answers.{QueryAnswers, AnswersAt}
use Rattle.session_model.specs.Counts.{Counts, OutsAre}
use Rattle.session_model.specs.Looks.{least_of, query_reply}
use Rattle.desk_calls.proofs.Alone.{same-front}
use Rattle.desk_answers.specs.Gives.{GivesAt}
use Rattle.desk_answers.specs.Shown.{ShowsAs}
use Rattle.desk_answers.specs.declared.reply.Answered.{Answered}

answers_by : (old new : Caller) (closes : Bool) (q : Request) (l : Option ℕ) (asked : Result Query QueryFault) (sign : Sign) (reply : Reply) → least_of q.min ≡ l → query q.body ≡ asked
    → QueryAnswers old.settings closes old.me old.front new.front l asked sign reply → AnswersAt old.settings closes old.me old.front new.front q routes.Query sign reply
answers_by old new closes q l asked sign reply e f a =
    subst (λ (x : Option ℕ). QueryAnswers old.settings closes old.me old.front new.front x (query q.body) sign reply) (sym e)
    (subst (λ (x : Result Query QueryFault). QueryAnswers old.settings closes old.me old.front new.front l x sign reply) (sym f) a)

pub query-shown : (old new : Caller) (closes : Bool) (size least : ℕ) (q : Request) (asked : Query) (r : Result Answered Memory) → size ≡ old.settings.page → least_of q.min ≡ Some least → query q.body ≡ Ok asked
    → ShowsAs old new (query_reply old.settings.keep size closes new.front least asked) r → GivesAt old new closes q routes.Query r
query-shown old new closes size least q asked (Ok a) s e f p = record {
  goes = p.0.still.goes;
  answers = answers_by old new closes q (Some least) (Ok asked) a.sign a.reply e f
      (p.1, p.0.still.none, subst (λ (n : ℕ). a.reply ≡ query_reply old.settings.keep n closes new.front least asked) s p.2);
  counts = subst (λ (g : Sign). Counts g old new) (sym p.1) p.0.rises;
  outs = subst (λ (g : Sign). OutsAre g old new) (sym p.1) p.0.outs;
  apart = p.0.still.apart;
  alone = λ h. record { still = p.0.alone h; tells = tt };
}
query-shown old new closes size least q asked (Err m) s e f p = record { goes = p.goes; leaves = p.none; apart = p.apart; alone = λ h. same-front old new p h }
