-- What the command `ask` writes, and its status (OSV schema 1.6, "Evaluation"; the lines of refusal are our own).
use Rattle.std.specs.Prelude.{◌≡◌, ℕ, List, [], ◌∷◌, ◌++◌, Result, Ok, Err}
use Rattle.std.specs.List.{flat_map}
use Rattle.osv_prim.specs.Results.{each}
use Rattle.osv_prim.specs.declared.subject.Subject.{Subject}
use Rattle.osv_prim.specs.declared.subject.Subject.TheVariants.{Package, Commit, CommitIn}
use Rattle.osv_record.specs.Advisories.{Advisory}
use Rattle.evaluate.specs.Hits.{Repo, hit_ids}
use Rattle.evaluate.specs.Kept.{HoldsHits}
use Rattle.evaluate.specs.declared.hit_ids.HitIds.{HitIds}
use Rattle.line_input.specs.Lines.{numbered}
use Rattle.ask.specs.Commits.{repos_of, refused_commits}
use Rattle.ask.specs.Line.{read_line, refused_line}
use Rattle.ask.specs.Outputs.{refusal}
use Rattle.ask.specs.Parts.{Parts, advisories_alone, divided}
use Rattle.ask.specs.declared.commits.CommitFault.{CommitFault}
use Rattle.ask.specs.declared.line.LineFault.{LineFault}
use Rattle.ask.specs.declared.output.Output.{Output}

-- where a commit is asked for, the input may name a repository; else all its lines are advisories
abbrev pub parts : Subject → List ℕ → Parts
parts (Package k t) input = advisories_alone (numbered 1 input)
parts (Commit c) input = divided input (numbered 1 input)
parts (CommitIn c k) input = divided input (numbered 1 input)

-- the lines were read, and these are the hits of their advisories, one after another
abbrev pub FindsHits : Subject → Result (List Advisory) LineFault → HitIds → Type 0
FindsHits subject total found = (imports : List Advisory) × (total ≡ Ok imports) × HoldsHits [] subject imports found

abbrev pub line_of : List ℕ → List ℕ
line_of id = id ++ 10 ∷ []

-- each id with a line end
abbrev pub ids_output : List (List ℕ) → Output
ids_output ids = record { status = 0; bytes = flat_map line_of ids }

-- the first line that is refused, or why there is no graph, or else the ids of the hits
abbrev pub answer : Subject → Result (List Advisory) LineFault → Result (List Repo) CommitFault → Output
answer subject (Err e) repos = refusal (refused_line e)
answer subject (Ok imports) (Err e) = refusal (refused_commits e)
answer subject (Ok imports) (Ok repos) = ids_output (hit_ids imports repos subject)

abbrev pub answer_to_parts : Subject → Parts → Output
answer_to_parts subject p = answer subject (each read_line p.advisories) (repos_of p.repo)

-- what is written to an input within the limit
unfoldable pub asked : Subject → List ℕ → Output
asked subject input = answer_to_parts subject (parts subject input)

-- the line was read, and its advisory is one more import
abbrev pub TakesLine : Subject → ℕ × List ℕ → HitIds → HitIds → Type 0
TakesLine subject line old new =
    (r : Advisory) × (read_line line ≡ Ok r) × ((imports : List Advisory) → HoldsHits [] subject imports old → HoldsHits [] subject (imports ++ r ∷ []) new)
