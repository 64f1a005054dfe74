-- Replies, but for which one a request gets (our own; what a status means is RFC 9110, section 15, and RFC 6585, section 5).
use Rattle.std.specs.Prelude.{ℕ, Bool, true, List, ◌++◌, Some, None, codes, decimal}
use Rattle.http_wire.specs.declared.fault.WireFault.{WireFault}
use Rattle.http_wire.specs.declared.fault.WireFault.TheVariants as faults
use Rattle.http_wire.specs.declared.reply.Allow.{Allow}
use Rattle.http_wire.specs.declared.reply.Reply.{Reply}
use Rattle.http_wire.specs.Codes as wire
use Rattle.reply_json.specs.declared.refusal.Refusal.{Refusal}
use Rattle.reply_json.specs.declared.refusal.Refusal.TheVariants as refusals
use Rattle.reply_json.specs.Refusals.{body_of, refusal_body, status_of}

-- ---- behind requests that were read; the first argument says whether the connection closes behind the reply

-- what was asked for was done
abbrev pub done_reply : Bool → List ℕ → Reply
done_reply closes body = record { body = body; snapshot = None; allow = None; status = 200; close = closes }

-- what was asked for, of a snapshot
abbrev pub snapshot_reply : Bool → ℕ → List ℕ → Reply
snapshot_reply closes snapshot body = record { body = body; snapshot = Some snapshot; allow = None; status = 200; close = closes }

-- why it is not done
abbrev pub refusal_reply : Bool → Refusal → Reply
refusal_reply closes refusal = record { body = refusal_body refusal; snapshot = None; allow = None; status = status_of refusal; close = closes }

-- by which method the path is asked
abbrev pub method_reply : Bool → Allow → Reply
method_reply closes allow = record { body = refusal_body refusals.MethodNotAllowed; snapshot = None; allow = Some allow; status = 405; close = closes }

-- ---- to requests that can't be read, behind which the connection closes

-- why a request can't be read
abbrev pub wire_message : WireFault → List ℕ
wire_message faults.BadHead = codes "bad request head"
wire_message faults.BadLength = codes "bad content-length"
wire_message faults.BothLengths = codes "content-length with transfer-encoding"
wire_message faults.BadChunk = codes "bad chunk"
wire_message (faults.BodyTooLarge limit) = codes "body larger than " ++ decimal limit
wire_message faults.ContentCoding = codes "content-encoding not supported"
wire_message faults.HeadTooLong = codes "request head too long"
wire_message faults.TransferCoding = codes "transfer-encoding not supported"

abbrev pub wire_status : WireFault → ℕ
wire_status faults.BadHead = 400
wire_status faults.BadLength = 400
wire_status faults.BothLengths = 400
wire_status faults.BadChunk = 400
wire_status (faults.BodyTooLarge limit) = 413
wire_status faults.ContentCoding = 415
wire_status faults.HeadTooLong = 431
wire_status faults.TransferCoding = 501

unfoldable pub wire_body : WireFault → List ℕ
wire_body fault = body_of (wire.code_of fault) (wire_message fault)

unfoldable pub wire_reply : WireFault → Reply
wire_reply fault = record { body = wire_body fault; snapshot = None; allow = None; status = wire_status fault; close = true }
