use Rattle.std.proofs.Common.{ap, ◌∙◌, drop}
use Rattle.std.proofs.lemmas.List.{drop_at}
use Rattle.http_wire.proofs.reply_body.ReplyBody.behind_room.Goals as goal

pub returns : goal.returns
returns c = λ room text items size. ap (drop 256) items ∙ drop_at room text 256 size
