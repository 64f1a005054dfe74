-- A stream that is fed as it is read.
use Rattle.std.proofs.Common.{◌≡◌, ◌≤◌, ◌<◌, ℕ, List, [], ◌∷◌, ◌++◌, length, Option, Some, None, Ok, Err, refl, sym, ap, subst, ◌∙◌, append_assoc}
use Rattle.std.proofs.lemmas.List.{append-nil}
use Rattle.std.specs.Prelude.{IsOk}
use Rattle.osv_prim.specs.Repos.{normal_repo}
use Rattle.osv_prim.specs.Results.{each, Fails}
use Rattle.osv_prim.specs.declared.oid.CommitRow.{CommitRow}
use Rattle.osv_prim.specs.declared.stop.Stop.{Stop}
use Rattle.osv_prim.specs.declared.stop.Stop.TheVariants as stop
use Rattle.fast_export.specs.Reads.{Reads}
use Rattle.fast_export.specs.declared.reader.Reader.{Reader}
use Rattle.line_input.specs.Reader.{GivesPiece, Holds, current}
use Rattle.line_input.specs.declared.reader.LineReader.{LineReader}
use Rattle.line_input.specs.declared.reader.Next.TheVariants.{Here, End}
use Rattle.settings.specs.declared.TheConstants.{MAX_COMMITS}
use Rattle.ask.specs.Commits.{graph_in, repo_of, repos_of}
use Rattle.ask.specs.Line.{read_line}
use Rattle.ask.specs.Parts.{Parts}
use Rattle.ask.specs.Stops.{FeedsStream, GraphStops, NamesRepo, Stops, commits_stop}
use Rattle.ask.specs.declared.commits.CommitFault.{CommitFault}
use Rattle.ask.specs.declared.stop.InputStop.{InputStop}
use Rattle.ask.specs.declared.stop.InputStop.TheVariants.{Line, Commits, TooLarge, Read}

-- some front of the text was fed, and the rest is still to come
pub record HasFed (text : List ℕ) (total : ℕ) (r : LineReader) (left : Option (List ℕ)) (stream : Reader) : Type 0 where
  pub fed : List ℕ
  pub rest : List ℕ
  pub whole : fed ++ rest ≡ text
  pub holds : Holds rest total r left
  pub reads : Reads MAX_COMMITS fed stream

pub fed_none : (text : List ℕ) (total : ℕ) (r : LineReader) (left : Option (List ℕ)) (stream : Reader) → Holds text total r left → Reads MAX_COMMITS [] stream → HasFed text total r left stream
fed_none text total r left stream h e = record { fed = []; rest = text; whole = refl; holds = h; reads = e }

pub fed_more : (text : List ℕ) (total : ℕ) (old new : LineReader) (lo ln : Option (List ℕ)) (stream after : Reader) (h : HasFed text total old lo stream) → GivesPiece h.rest total old new ln (Ok Here)
    → (Reads MAX_COMMITS h.fed stream → Reads MAX_COMMITS (h.fed ++ (current new).1) after) → HasFed text total new ln after
fed_more text total old new lo ln stream after h g f =
    let more = g.here refl in
    record {
      fed = h.fed ++ (current new).1;
      rest = more.0;
      whole = append_assoc h.fed (current new).1 more.0 ∙ ap (λ (xs : List ℕ). h.fed ++ xs) (sym more.1) ∙ h.whole;
      holds = more.2;
      reads = f h.reads;
    }

pub fed_all : (text : List ℕ) (total : ℕ) (old new : LineReader) (lo ln : Option (List ℕ)) (stream : Reader) (h : HasFed text total old lo stream) → GivesPiece h.rest total old new ln (Ok End)
    → FeedsStream text total old.limit (Some stream)
fed_all text total old new lo ln stream h g =
    let e = g.end refl in
    (subst (λ (xs : List ℕ). Reads MAX_COMMITS xs stream) (sym (append-nil h.fed) ∙ ap (λ (xs : List ℕ). h.fed ++ xs) (sym e.0) ∙ h.whole) h.reads, e.1)

pub graph_stops : (text : List ℕ) (total limit : ℕ) (stream : Reader) (d : Stop CommitFault) → FeedsStream text total limit (Some stream) → (Reads MAX_COMMITS text stream → Fails d (graph_in text))
    → GraphStops text total limit (commits_stop d)
graph_stops text total limit stream stop.Memory f g = tt
graph_stops text total limit stream (stop.Refused e) f g = (g f.0, f.1)

-- ---- the repository

pub no_repo : (named : Option (List ℕ × List ℕ)) → named ≡ None → repos_of named ≡ Ok []
unfolding repos_of
no_repo named none = ap repos_of none

pub the_repo : (named : Option (List ℕ × List ℕ)) (url text key : List ℕ) (graph : List CommitRow) → named ≡ Some (url, text) → key ≡ normal_repo url → graph_in text ≡ Ok graph
    → repos_of named ≡ Ok ((key, graph) ∷ [])
unfolding repos_of repo_of
the_repo named url text key graph is k g = ap repos_of is ∙ rw g (ap (λ (x : List ℕ). Ok ((x, graph) ∷ [])) (sym k))

no_graph : (url text : List ℕ) (e : CommitFault) → graph_in text ≡ Err e → repos_of (Some (url, text)) ≡ Err e
unfolding repos_of repo_of
no_graph url text e g = rw g refl

pub repo_stops : (input : List ℕ) (parts : Parts) (key : List ℕ) (r new : LineReader) (lo ln : Option (List ℕ)) (d : InputStop) → IsOk (each read_line parts.advisories) → NamesRepo input parts.repo (Some key) r lo
    → ((text : List ℕ) → (total : ℕ) → Holds text total r lo → GraphStops text total r.limit d) → new.limit ≡ r.limit → Stops input parts d new ln
repo_stops input parts key r new lo ln (Line e) ok n s l = absurd (s n.1 (length input) n.4)
repo_stops input parts key r new lo ln (Commits e) ok n s l =
    let g = s n.1 (length input) n.4 in
    (ok, ap repos_of n.2 ∙ no_graph n.0 n.1 e g.0, subst (λ (k : ℕ). length input ≤ k) (sym l) g.1)
repo_stops input parts key r new lo ln TooLarge ok n s l = let g = s n.1 (length input) n.4 in subst (λ (k : ℕ). k < length input) (sym l) g
repo_stops input parts key r new lo ln (Read x) ok n s l = tt
