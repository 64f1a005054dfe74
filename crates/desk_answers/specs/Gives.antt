-- What answering a request gives (our own).
use Rattle.std.specs.Prelude.{Bool, Result, Ok, Err}
use Rattle.osv_prim.specs.declared.memory.Memory.{Memory}
use Rattle.book_model.specs.Desk.{Caller}
use Rattle.http_wire.specs.declared.request.Request.{Request}
use Rattle.session_model.specs.declared.route.Route.{Route}
use Rattle.session_model.specs.Routes.{route_of}
use Rattle.session_model.specs.Runs.{RepliedAt, UnansweredAt}
use Rattle.desk_answers.specs.declared.reply.Answered.{Answered}

-- to a request that leads there: its reply with its sign, or there was no memory
abbrev pub GivesAt : Caller → Caller → Bool → Request → Route → Result Answered Memory → Type 0
GivesAt old new closes q route (Ok a) = RepliedAt old new closes q route a.sign a.reply
GivesAt old new closes q route (Err e) = UnansweredAt old new route

abbrev pub Gives : Caller → Caller → Bool → Request → Result Answered Memory → Type 0
Gives old new closes q answer = GivesAt old new closes q (route_of q) answer
