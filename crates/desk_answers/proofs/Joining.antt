-- The answer to the commits of a repository.
use Rattle.std.proofs.Common.{◌≡◌, ◌≢◌, ◌⊎◌, inl, inr, ℕ, ◌+◌, ◌<◌, ◌≤◌, Bool, true, false, cond, List, [], ◌∷◌, ◌++◌, length, take, drop, Option, Some, refl, sym, ap, subst, ◌∙◌, arith}
use Rattle.std.proofs.Math.Seq.{take-append_seam}
use Rattle.std.specs.Prelude.{Result, Ok, Err, IfOk, IfSome}
use mathlib.Core.List.{IsPrefix}
use Rattle.osv_prim.specs.declared.memory.Memory.{Memory}
use Rattle.osv_prim.specs.declared.oid.CommitRow.{CommitRow}
use Rattle.osv_prim.specs.Graphs.{has, with_row, joined}
use Rattle.commit_graph.specs.Extended.{extended}
use Rattle.fast_export.specs.declared.fault.StreamFault.{StreamFault}
use Rattle.history.specs.declared.past.Past.{Past}
use Rattle.history.specs.declared.past.Past.TheVariants.{Grow}
use Rattle.history.specs.Conditions.{IsOfVersion}
use Rattle.history.specs.Entries.{History, weight, entry_weight}
use Rattle.history.specs.Prefixes.{grows, graph, graph_at}
use Rattle.history.proofs.Conditions.{graph_at-now}
use Rattle.history.proofs.Entries.{front-refl, front-trans}
use Rattle.history.proofs.Prefixes.{graph_at-stays, grows-front}
use Rattle.book_model.specs.State.{Build}
use Rattle.book_model.specs.Desk.{Caller}
use Rattle.http_wire.specs.declared.reply.Reply.{Reply}
use Rattle.http_wire.specs.declared.request.Request.{Request}
use Rattle.reply_json.specs.declared.refusal.Refusal.TheVariants as refusals
use Rattle.reply_json.specs.Bodies.{commits_body}
use Rattle.session_model.specs.declared.route.Route.TheVariants as routes
use Rattle.session_model.specs.declared.sign.Sign.{Sign}
use Rattle.session_model.specs.declared.sign.Sign.TheVariants as signs
use Rattle.session_model.specs.Alone.{IsAlone, IsUnmoved}
use Rattle.session_model.specs.Answers.{AddsNothing, AddsEntry, GrowsBy, LacksRoom, CommitsAnswer, StreamAnswers, RepoAnswers, AnswersAt, commits_in}
use Rattle.session_model.specs.Counts.{Rises, Counts, OutsAre}
use Rattle.session_model.specs.Replies.{done_reply, refusal_reply}
use Rattle.session_model.specs.Routes.{key_of}
use Rattle.session_model.specs.Runs.{RepliedAt, UnansweredAt}
use Rattle.session_model.proofs.Apart.{apart-then}
use Rattle.session_model.proofs.Counting.{rises-then, rises-less}
use Rattle.session_model.proofs.Runs.{goes-then}
use Rattle.desk_calls.specs.Calls.{Still, Quiet}
use Rattle.desk_calls.specs.Growing as calls
use Rattle.desk_calls.proofs.Alone.{same-front}
use Rattle.desk_answers.specs.Gives.{GivesAt}
use Rattle.desk_answers.specs.Joining.{TellsGrown, TellsFull, TellsMoved, Misfits, Joined, GrowsAs, JoinsAs}
use Rattle.desk_answers.specs.declared.reply.Answered.{Answered}

-- ---- graphs

row_begins : (b : Bool) (g : List CommitRow) (r : CommitRow) → IsPrefix g (cond b g (g ++ r ∷ []))
row_begins true g r = front-refl g
row_begins false g r = (r ∷ [], refl)

joined-begins : (g rows : List CommitRow) → IsPrefix g (joined g rows)
joined-begins g [] = front-refl g
joined-begins g (r ∷ rows) = front-trans g (with_row g r) (joined (with_row g r) rows) (row_begins (has g r.oid) g r) (joined-begins (with_row g r) rows)

pub joined-of_version : (key : List ℕ) (version : ℕ) (h : History) (rows whole : List CommitRow) → version ≡ grows h key → whole ≡ joined (graph h key) rows → IsOfVersion key version whole h
joined-of_version key version h rows whole v w =
    let now : graph_at version h key ≡ graph h key = ap (λ (n : ℕ). graph_at n h key) v ∙ graph_at-now h key in
    record {
      there = omega (arith, v);
      begins = subst (λ (x : List CommitRow). IsPrefix x whole) (sym now) (subst (λ (x : List CommitRow). IsPrefix (graph h key) x) (sym w) (joined-begins (graph h key) rows));
    }

-- the graph is the same where no Grow came
same-graph : (a b : History) (key : List ℕ) → IsPrefix a b → grows a key ≡ grows b key → graph b key ≡ graph a key
same-graph a b key p e =
    let le : grows a key ≤ grows a key = omega arith in
    sym (graph_at-now b key) ∙ ap (λ (n : ℕ). graph_at n b key) (sym e) ∙ ap (λ (h : History). graph_at (grows a key) h key) (sym p.1)
    ∙ graph_at-stays a p.0 key (grows a key) le ∙ graph_at-now a key

before-entry : (me : ℕ) (e : Past) (place : ℕ) (h now : History) (a : AddsEntry me e place h now) → take place now ≡ a.before
before-entry me e place h now a =
    ap (λ (n : ℕ). take n now) a.place_is ∙ ap (λ (x : History). take (length a.before) x) a.ends ∙ take-append_seam a.before (e ∷ [])

-- ---- two calls

two-rise : (old mid new : Caller) (busy : ℕ) → Rises 0 0 1 old mid → Rises busy 0 1 mid new → Rises busy 0 0 old new
two-rise old mid new busy p q = rises-less old new (0 + busy) (0 + 0) (1 + 1) busy 0 0 (omega arith) (omega arith) (omega arith) (rises-then old mid 0 0 1 new busy 0 1 p q)

none-then : (old mid new : Caller) → Still old mid → Still mid new → AddsNothing old.me old.front new.front
none-then old mid new p q =
    let n : AddsNothing old.me mid.front new.front = subst (λ (k : ℕ). AddsNothing k mid.front new.front) p.goes.me q.none in
    record { begins = front-trans old.front mid.front new.front p.none.begins n.begins; mine = n.mine ∙ p.none.mine }

still-unanswered : (old mid new : Caller) → Quiet old mid → Still mid new → UnansweredAt old new routes.Repo
still-unanswered old mid new p q = record {
  goes = goes-then old mid new p.still.goes q.goes;
  leaves = none-then old mid new p.still q;
  apart = apart-then old mid new p.still.goes.me p.still.apart q.apart;
  alone = λ h. same-front mid new q (p.alone h) ∙ same-front old mid p.still h;
}

pub grows-on : (old mid new : Caller) (closes : Bool) (key : List ℕ) (most version : ℕ) (rows whole : List CommitRow) (r : Result Answered Memory) → calls.Shown old key version (graph mid.front key) mid → extended (graph mid.front key) most rows ≡ Ok whole
    → GrowsAs mid new closes key version whole r → JoinsAs old new closes key most rows r
grows-on old mid new closes key most version rows whole (Ok a) s e g = inr (record { mid = mid; version = version; whole = whole; shown = s; joins = e; grows = g })
grows-on old mid new closes key most version rows whole (Err x) s e g = still-unanswered old mid new s.quiet g

-- ---- what the growth comes to

pub tells-grown : (old new : Caller) (closes : Bool) (key : List ℕ) (version : ℕ) (given whole : List CommitRow) (place commits : ℕ) (body : List ℕ) (a : Answered) → calls.Grown old key version given place new → given ≡ whole
    → commits ≡ length whole → body ≡ commits_body place commits → (a.sign ≡ signs.Plain) × (a.reply ≡ done_reply closes body)
    → TellsGrown old new closes key version whole a ⊎ (TellsFull old new closes key version whole a ⊎ TellsMoved old new closes key version a)
tells-grown old new closes key version given whole place commits body a g e n b d =
    inl (record {
      place = place;
      grown = subst (λ (w : List CommitRow). calls.Grown old key version w place new) e g;
      sign = d.0;
      reply = d.1 ∙ ap (λ (x : List ℕ). done_reply closes x) b ∙ ap (λ (k : ℕ). done_reply closes (commits_body place k)) n;
    })

pub tells-full : (old new : Caller) (closes : Bool) (key : List ℕ) (version : ℕ) (given whole : List CommitRow) (used limit : ℕ) (r : Result Answered Memory) → calls.LacksRoom old key version given used limit new → given ≡ whole
    → IfOk r (λ a. (a.sign ≡ signs.Plain) × (a.reply ≡ refusal_reply closes (refusals.JournalFull used limit))) → GrowsAs old new closes key version whole r
tells-full old new closes key version given whole used limit (Ok a) l e d =
    inr (inl (record { used = used; limit = limit; lacks = subst (λ (w : List CommitRow). calls.LacksRoom old key version w used limit new) e l; sign = d.0; reply = d.1 }))
tells-full old new closes key version given whole used limit (Err x) l e d = l.quiet.still

pub tells-moved : (old new : Caller) (closes : Bool) (key : List ℕ) (version : ℕ) (whole : List CommitRow) (seen now : ℕ) (r : Result Answered Memory) → calls.Moved old key version seen now new
    → IfOk r (λ a. (a.sign ≡ signs.Moved seen) × (a.reply ≡ refusal_reply closes (refusals.RepoMoved seen now))) → GrowsAs old new closes key version whole r
tells-moved old new closes key version whole seen now (Ok a) m d = inr (inr (record { seen = seen; now = now; moved = m; sign = d.0; reply = d.1 }))
tells-moved old new closes key version whole seen now (Err x) m d = m.still

-- ---- answers

plain-counts : (sign : Sign) (old new : Caller) → sign ≡ signs.Plain → Rises 0 0 0 old new → Counts sign old new
plain-counts sign old new e p = subst (λ (g : Sign). Counts g old new) (sym e) p

repo-by : (old new : Caller) (closes : Bool) (q : Request) (key : List ℕ) (rows : List CommitRow) (sign : Sign) (reply : Reply) → key_of q.query ≡ Some key → commits_in old.settings.commits q.body ≡ Ok rows
    → CommitsAnswer old.settings closes old.me old.front new.front key rows sign reply → AnswersAt old.settings closes old.me old.front new.front q routes.Repo sign reply
repo-by old new closes q key rows sign reply e f a =
    subst (λ (k : Option (List ℕ)). RepoAnswers old.settings closes old.me old.front new.front k q.body sign reply) (sym e)
    (subst (λ (x : Result (List CommitRow) StreamFault). StreamAnswers old.settings closes old.me old.front new.front key x sign reply) (sym f) a)

commits-by : (old new : Caller) (closes : Bool) (key : List ℕ) (rows : List CommitRow) (given sign : Sign) (reply : Reply) → sign ≡ given → CommitsAnswer old.settings closes old.me old.front new.front key rows given reply
    → CommitsAnswer old.settings closes old.me old.front new.front key rows sign reply
commits-by old new closes key rows given sign reply e a = subst (λ (g : Sign). CommitsAnswer old.settings closes old.me old.front new.front key rows g reply) (sym e) a

-- its entry
entry-then : (old mid new : Caller) (e : ℕ → Past) (place : ℕ) → Still old mid → AddsEntry mid.me (e mid.me) place mid.front new.front → AddsEntry old.me (e old.me) place old.front new.front
entry-then old mid new e place p a =
    let b : AddsEntry old.me (e old.me) place mid.front new.front = subst (λ (k : ℕ). AddsEntry k (e k) place mid.front new.front) p.goes.me a in
    record {
      before = b.before;
      begins = front-trans old.front mid.front b.before p.none.begins b.begins;
      ends = b.ends;
      place_is = b.place_is;
      mine = b.mine ∙ ap (λ (xs : List (ℕ × Past)). xs ++ (place, e old.me) ∷ []) p.none.mine;
    }

grown-by : (old mid new : Caller) (closes : Bool) (key : List ℕ) (version : ℕ) (rows whole : List CommitRow) (a : Answered) → calls.Shown old key version (graph mid.front key) mid → extended (graph mid.front key) old.settings.commits rows ≡ Ok whole
    → TellsGrown mid new closes key version whole a → GrowsBy old.settings closes old.me old.front new.front key rows a.reply
grown-by old mid new closes key version rows whole a s e t =
    let g = t.grown in
    let h : History = take t.place new.front in
    let ahead : IsPrefix mid.front h = subst (λ (x : History). IsPrefix mid.front x) (sym (before-entry mid.me (Grow mid.me key (drop (length (graph h key)) whole)) t.place mid.front new.front g.adds)) g.adds.begins in
    let same : graph h key ≡ graph mid.front key = same-graph mid.front h key ahead (sym s.count_is ∙ g.version_is) in
    let fits : extended (graph h key) old.settings.commits rows ≡ Ok (graph new.front key) =
    ap (λ (x : List CommitRow). extended x old.settings.commits rows) same ∙ e ∙ ap (λ (x : List CommitRow). Ok x) (sym g.whole) in
    let adds : AddsEntry old.me (Grow old.me key (drop (length (graph h key)) whole)) t.place old.front new.front = entry-then old mid new (λ (k : ℕ). Grow k key (drop (length (graph h key)) whole)) t.place s.quiet.still g.adds in (
      t.place,
      subst (λ (x : List CommitRow). AddsEntry old.me (Grow old.me key (drop (length (graph h key)) x)) t.place old.front new.front) (sym g.whole) adds,
      fits,
      subst (λ (n : ℕ). weight new.front ≤ n) (ap (λ x. x.weight) s.quiet.still.goes.settings) g.within,
      t.reply ∙ ap (λ (x : List CommitRow). done_reply closes (commits_body t.place (length x))) (sym g.whole),
    )

grown-replied : (old mid new : Caller) (closes : Bool) (q : Request) (key : List ℕ) (version : ℕ) (rows whole : List CommitRow) (a : Answered) → key_of q.query ≡ Some key → commits_in old.settings.commits q.body ≡ Ok rows
    → calls.Shown old key version (graph mid.front key) mid → extended (graph mid.front key) old.settings.commits rows ≡ Ok whole → TellsGrown mid new closes key version whole a → RepliedAt old new closes q routes.Repo a.sign a.reply
grown-replied old mid new closes q key version rows whole a k f s e t =
    let g = t.grown in
    let p = s.quiet in
    record {
      goes = goes-then old mid new p.still.goes g.goes;
      answers = repo-by old new closes q key rows a.sign a.reply k f (commits-by old new closes key rows signs.Plain a.sign a.reply t.sign (inl (grown-by old mid new closes key version rows whole a s e t)));
      counts = plain-counts a.sign old new t.sign (two-rise old mid new 0 p.rises g.rises);
      outs = subst (λ (x : Sign). OutsAre x old new) (sym t.sign) (g.outs ∙ p.outs);
      apart = apart-then old mid new p.still.goes.me p.still.apart g.apart;
      alone = λ h. record { still = g.alone (p.alone h); tells = subst (λ (x : Sign). IsUnmoved x) (sym t.sign) tt };
    }

full-by : (old mid new : Caller) (closes : Bool) (key : List ℕ) (version : ℕ) (rows whole : List CommitRow) (a : Answered) → calls.Shown old key version (graph mid.front key) mid → extended (graph mid.front key) old.settings.commits rows ≡ Ok whole
    → TellsFull mid new closes key version whole a → LacksRoom old.settings closes old.me old.front new.front key rows a.reply
full-by old mid new closes key version rows whole a s e t =
    let l = t.lacks in
    let k = s.quiet.still in
    let limit : mid.settings.weight ≡ old.settings.weight = ap (λ x. x.weight) k.goes.settings in
    let same : graph new.front key ≡ graph mid.front key = same-graph mid.front new.front key l.quiet.still.none.begins (sym s.count_is ∙ l.version_is) in
    let passes : old.settings.weight < weight new.front + entry_weight (Grow old.me key (drop (length (graph new.front key)) whole)) =
    subst (λ (n : ℕ). n < weight new.front + entry_weight (Grow old.me key (drop (length (graph new.front key)) whole))) limit l.passes in (
      whole,
      ap (λ (x : List CommitRow). extended x old.settings.commits rows) same ∙ e,
      (
        none-then old mid new k l.quiet.still,
        passes,
        t.reply ∙ ap (λ (n : ℕ). refusal_reply closes (refusals.JournalFull n t.limit)) l.used_is ∙ ap (λ (n : ℕ). refusal_reply closes (refusals.JournalFull (weight new.front) n)) (l.limit_is ∙ limit),
      ),
    )

full-replied : (old mid new : Caller) (closes : Bool) (q : Request) (key : List ℕ) (version : ℕ) (rows whole : List CommitRow) (a : Answered) → key_of q.query ≡ Some key → commits_in old.settings.commits q.body ≡ Ok rows
    → calls.Shown old key version (graph mid.front key) mid → extended (graph mid.front key) old.settings.commits rows ≡ Ok whole → TellsFull mid new closes key version whole a → RepliedAt old new closes q routes.Repo a.sign a.reply
full-replied old mid new closes q key version rows whole a k f s e t =
    let l = t.lacks.quiet in
    let p = s.quiet in
    record {
      goes = goes-then old mid new p.still.goes l.still.goes;
      answers = repo-by old new closes q key rows a.sign a.reply k f (commits-by old new closes key rows signs.Plain a.sign a.reply t.sign (inr (full-by old mid new closes key version rows whole a s e t)));
      counts = plain-counts a.sign old new t.sign (two-rise old mid new 0 p.rises l.rises);
      outs = subst (λ (x : Sign). OutsAre x old new) (sym t.sign) (l.outs ∙ p.outs);
      apart = apart-then old mid new p.still.goes.me p.still.apart l.still.apart;
      alone = λ h. record { still = l.alone (p.alone h); tells = subst (λ (x : Sign). IsUnmoved x) (sym t.sign) tt };
    }

-- nobody else grew it where the caller is alone
never-alone : (mid new : Caller) (key : List ℕ) (version seen now : ℕ) → calls.Moved mid key version seen now new → version ≡ grows mid.front key → IsAlone mid → ⊥
never-alone mid new key version seen now m v h = (subst (λ (x : Option (Option Build)). IfSome x (λ b. version ≢ grows mid.front key)) h m.others) v

moved-replied : (old mid new : Caller) (closes : Bool) (q : Request) (key : List ℕ) (version : ℕ) (rows : List CommitRow) (a : Answered) → key_of q.query ≡ Some key → commits_in old.settings.commits q.body ≡ Ok rows
    → calls.Shown old key version (graph mid.front key) mid → TellsMoved mid new closes key version a → RepliedAt old new closes q routes.Repo a.sign a.reply
moved-replied old mid new closes q key version rows a k f s t =
    let m = t.moved in
    let p = s.quiet in
    let grew = grows-front old.front mid.front key p.still.none.begins in
    let from : grows old.front key ≤ t.seen = omega (arith, grew, s.count_is, m.seen_is) in
    let below : t.seen < grows new.front key = omega (arith, m.later, m.seen_is, m.now_is) in
    record {
      goes = goes-then old mid new p.still.goes m.still.goes;
      answers = repo-by old new closes q key rows a.sign a.reply k f (commits-by old new closes key rows (signs.Moved t.seen) a.sign a.reply t.sign
          (none-then old mid new p.still m.still, from, below, t.reply ∙ ap (λ (n : ℕ). refusal_reply closes (refusals.RepoMoved t.seen n)) m.now_is));
      counts = subst (λ (x : Sign). Counts x old new) (sym t.sign) (two-rise old mid new 1 p.rises m.rises);
      outs = subst (λ (x : Sign). OutsAre x old new) (sym t.sign) (m.outs ∙ p.outs);
      apart = apart-then old mid new p.still.goes.me p.still.apart m.still.apart;
      alone = λ h. absurd (never-alone mid new key version t.seen t.now m s.count_is (p.alone h));
    }

misfit-replied : (old new : Caller) (closes : Bool) (q : Request) (key : List ℕ) (rows : List CommitRow) (a : Answered) → key_of q.query ≡ Some key → commits_in old.settings.commits q.body ≡ Ok rows
    → Misfits old new closes key old.settings.commits rows a → RepliedAt old new closes q routes.Repo a.sign a.reply
misfit-replied old new closes q key rows a k f m = record {
  goes = m.quiet.still.goes;
  answers = repo-by old new closes q key rows a.sign a.reply k f (commits-by old new closes key rows signs.Looked a.sign a.reply m.sign (m.fault, m.refused, m.quiet.still.none, m.reply));
  counts = subst (λ (x : Sign). Counts x old new) (sym m.sign) m.quiet.rises;
  outs = subst (λ (x : Sign). OutsAre x old new) (sym m.sign) m.quiet.outs;
  apart = m.quiet.still.apart;
  alone = λ h. record { still = m.quiet.alone h; tells = subst (λ (x : Sign). IsUnmoved x) (sym m.sign) tt };
}

joined-replied : (old new : Caller) (closes : Bool) (q : Request) (key : List ℕ) (rows : List CommitRow) (a : Answered) → key_of q.query ≡ Some key → commits_in old.settings.commits q.body ≡ Ok rows
    → Misfits old new closes key old.settings.commits rows a ⊎ Joined old new closes key old.settings.commits rows a → RepliedAt old new closes q routes.Repo a.sign a.reply
joined-replied old new closes q key rows a k f (inl m) = misfit-replied old new closes q key rows a k f m
joined-replied old new closes q key rows a k f (inr j) = by_growth j.grows
  where
    by_growth : TellsGrown j.mid new closes key j.version j.whole a ⊎ (TellsFull j.mid new closes key j.version j.whole a ⊎ TellsMoved j.mid new closes key j.version a) → RepliedAt old new closes q routes.Repo a.sign a.reply
    by_growth (inl t) = grown-replied old j.mid new closes q key j.version rows j.whole a k f j.shown j.joins t
    by_growth (inr (inl t)) = full-replied old j.mid new closes q key j.version rows j.whole a k f j.shown j.joins t
    by_growth (inr (inr t)) = moved-replied old j.mid new closes q key j.version rows a k f j.shown t

pub commits-joined : (old new : Caller) (closes : Bool) (q : Request) (key : List ℕ) (most : ℕ) (rows : List CommitRow) (r : Result Answered Memory) → key_of q.query ≡ Some key → commits_in most q.body ≡ Ok rows → most ≡ old.settings.commits
    → JoinsAs old new closes key most rows r → GivesAt old new closes q routes.Repo r
commits-joined old new closes q key most rows (Ok a) k f m j =
    joined-replied old new closes q key rows a k (ap (λ (n : ℕ). commits_in n q.body) (sym m) ∙ f)
    (subst (λ (n : ℕ). Misfits old new closes key n rows a ⊎ Joined old new closes key n rows a) m j)
commits-joined old new closes q key most rows (Err e) k f m j = j
