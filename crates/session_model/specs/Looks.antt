-- Replies of snapshots (OSV.dev API v1, "POST /v1/query", "POST /v1/querybatch" and "GET /v1/vulns/{id}"; pages, tokens and the least snapshot are our own). The tests stand in the order in which they are made.
use Rattle.std.specs.Prelude.{ℕ, ◌+◌, Bool, true, List, length, take, filter, Option, Some, None, option_map, Result, Ok, Err, nat_lt, nat_le, if◌then◌else◌}
use Rattle.std.specs.List.{enumerate_from}
use Rattle.osv_prim.specs.Numerals.{u64_of}
use Rattle.osv_prim.specs.Results.{◌>>=◌, each}
use Rattle.osv_record.specs.Advisories.{Advisory}
use Rattle.page_token.specs.declared.token.Token.{Token}
use Rattle.query_json.specs.declared.query.Query.{Query}
use Rattle.history.specs.declared.past.Past.{Past}
use Rattle.history.specs.Entries.{History, newest, snap, oldest_kept}
use Rattle.history.specs.Lookups.{record_of}
use Rattle.snapshot.specs.Pages.{page}
use Rattle.http_wire.specs.declared.reply.Reply.{Reply}
use Rattle.reply_json.specs.declared.refusal.Refusal.{Refusal}
use Rattle.reply_json.specs.declared.refusal.Refusal.TheVariants as refusals
use Rattle.reply_json.specs.Answers.{Answer, answer_body, batch_body}
use Rattle.session_model.specs.Replies.{snapshot_reply, refusal_reply}

-- the snapshot that the client wants at least, 0 where it names none, by the value of its `x-osv-min-snapshot`
abbrev pub least_of : Option (List ℕ) → Option ℕ
least_of None = Some 0
least_of (Some text) = u64_of text

-- ---- queries

-- the snapshot that a token names while it is kept, and the newest without a token; `index` is that of the query in a batch
abbrev pub named_snapshot : Option ℕ → ℕ → History → Option ℕ → Result ℕ Refusal
named_snapshot index keep h None = Ok (newest h)
named_snapshot index keep h (Some number) =
    if nat_lt (newest h) number then Err (refusals.SnapshotAhead index number (newest h))
    else if nat_le (number + keep) (newest h) then Err (refusals.SnapshotGone index number (oldest_kept keep h))
    else Ok number

-- the snapshot that answers, or why none does
abbrev pub snapshot_for : ℕ → History → ℕ → Option ℕ → Result ℕ Refusal
snapshot_for keep h least named =
    if nat_lt (newest h) least then Err (refusals.SnapshotNotYet least (newest h)) else named_snapshot None keep h named

-- the snapshot that a token names
abbrev pub named_by : Option Token → Option ℕ
named_by token = option_map (λ (t : Token). t.snapshot) token

-- behind which id the page begins
abbrev pub after_of : Option Token → Option (List ℕ)
after_of token = option_map (λ (t : Token). t.after) token

-- the first so many hits of a snapshot's imports behind an id
abbrev pub page_of : ℕ → List Past → ℕ → Query → Answer
page_of size p snapshot q = record {
  snapshot = snapshot;
  found = (page p q.subject (after_of q.page) size).found;
  more = (page p q.subject (after_of q.page) size).more;
}

abbrev pub page_reply : Bool → ℕ → History → Query → Result ℕ Refusal → Reply
page_reply closes size h q (Err refusal) = refusal_reply closes refusal
page_reply closes size h q (Ok snapshot) = snapshot_reply closes snapshot (answer_body (page_of size (snap h snapshot) snapshot q))

-- the reply to a query, where so many snapshots are kept and a page has so many hits
abbrev pub query_reply : ℕ → ℕ → Bool → History → ℕ → Query → Reply
query_reply keep size closes h least q = page_reply closes size h q (snapshot_for keep h least (named_by q.page))

-- ---- batches, whose queries are all answered of one history

-- the page of a query, or why there is none
abbrev pub answer_at : ℕ → ℕ → History → ℕ × Query → Result Answer Refusal
answer_at keep size h x =
    named_snapshot (Some x.0) keep h (named_by x.1.page) >>= λ snapshot. Ok (page_of size (snap h snapshot) snapshot x.1)

-- the page of each query, or the first refusal
abbrev pub answers_to : ℕ → ℕ → History → List Query → Result (List Answer) Refusal
answers_to keep size h queries = each (answer_at keep size h) (enumerate_from 0 queries)

abbrev pub pages_reply : Bool → ℕ → Result (List Answer) Refusal → Reply
pages_reply closes snapshot (Err refusal) = refusal_reply closes refusal
pages_reply closes snapshot (Ok answers) = snapshot_reply closes snapshot (batch_body answers)

-- the reply to a batch, where so many snapshots are kept and a page has so many hits
abbrev pub batch_reply : ℕ → ℕ → Bool → History → ℕ → List Query → Reply
batch_reply keep size closes h least queries =
    if nat_lt (newest h) least then refusal_reply closes (refusals.SnapshotNotYet least (newest h))
    else pages_reply closes (newest h) (answers_to keep size h queries)

-- ---- advisories by their id

abbrev pub found_reply : Bool → ℕ → Option Advisory → Reply
found_reply closes snapshot None = refusal_reply closes refusals.NoSuchId
found_reply closes snapshot (Some r) = snapshot_reply closes snapshot r.text

-- the reply that has the bytes of an advisory of the newest snapshot
abbrev pub vulns_reply : Bool → History → ℕ → List ℕ → Reply
vulns_reply closes h least id =
    if nat_lt (newest h) least then refusal_reply closes (refusals.SnapshotNotYet least (newest h))
    else found_reply closes (newest h) (record_of (snap h (newest h)) id)
