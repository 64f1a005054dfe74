-- The head of a reply, read back by the grammar that heads of requests are read by (RFC 9112, sections 4 and 5).
use Rattle.std.specs.Prelude.{◌≡◌, ◌<◌, ◌^◌, ℕ, List, ◌++◌, map, length, IfSome}
use Rattle.httparse.specs.Grammar.{ResponseHead, ReadsResponse, status_code}
use Rattle.httparse.specs.Spans.{name_and_value}
use Rattle.http_wire.specs.declared.reply.Reply.{Reply}
use Rattle.http_wire.specs.Replies.{HasPhrase, head_of, fields_of}

-- the head of the reply is a head of HTTP/1.1 with its status and its fields, whatever follows it
pub record ReadsBack (r : Reply) (rest : List ℕ) : Type 0 where
  pub head : ResponseHead
  pub reads : ReadsResponse (head_of r ++ rest) head rest
  pub version : head.minor ≡ 1
  pub status : status_code head ≡ r.status
  pub fields : map name_and_value head.fields ≡ fields_of r

-- the status has a phrase, and each number fits 64 bits
pub record IsReply (r : Reply) : Type 0 where
  pub status : HasPhrase r.status
  pub body : length r.body < 2 ^ 64
  pub snapshot : IfSome r.snapshot (λ s. s < 2 ^ 64)
