-- The graph of commits that an input brings, or why there is none (our own).
use Rattle.std.specs.Prelude.{ℕ, List, [], ◌∷◌, ◌++◌, length, Option, Some, None, Result, Ok, Err, codes}
use Rattle.std.specs.Fmt.{decimal}
use Rattle.osv_prim.specs.Repos.{normal_repo}
use Rattle.osv_prim.specs.Results.{◌>>=◌}
use Rattle.osv_prim.specs.declared.oid.CommitRow.{CommitRow}
use Rattle.commit_graph.specs.Extended.{extended}
use Rattle.commit_graph.specs.Faults as graph
use Rattle.commit_graph.specs.declared.fault.GraphFault.{GraphFault}
use Rattle.evaluate.specs.Hits.{Repo}
use Rattle.fast_export.specs.Faults as stream_fault
use Rattle.fast_export.specs.Stream.{stream, answer}
use Rattle.fast_export.specs.declared.fault.StreamFault.{StreamFault}
use Rattle.settings.specs.declared.TheConstants.{MAX_COMMITS}
use Rattle.ask.specs.declared.commits.CommitFault.{CommitFault}
use Rattle.ask.specs.declared.commits.CommitFault.TheVariants.{Stream, Graph}

abbrev pub in_stream : Result (List CommitRow) StreamFault → Result (List CommitRow) CommitFault
in_stream (Ok rows) = Ok rows
in_stream (Err e) = Err (Stream e)

abbrev pub in_graph : Result (List CommitRow) GraphFault → Result (List CommitRow) CommitFault
in_graph (Ok graph) = Ok graph
in_graph (Err e) = Err (Graph e)

-- the commits of a stream, or its first fault
unfoldable pub rows_of : List ℕ → Result (List CommitRow) CommitFault
rows_of text = in_stream (answer (length text) (stream text MAX_COMMITS))

-- the graph of rows, or the first faulty one
unfoldable pub graph_of_rows : List CommitRow → Result (List CommitRow) CommitFault
graph_of_rows rows = in_graph (extended [] MAX_COMMITS rows)

-- the graph of the commits of a stream
unfoldable pub graph_in : List ℕ → Result (List CommitRow) CommitFault
graph_in text = rows_of text >>= graph_of_rows

-- the repository with this URL, whose commits the text brings
unfoldable pub repo_of : List ℕ → List ℕ → Result Repo CommitFault
repo_of url text = graph_in text >>= λ graph. Ok (normal_repo url, graph)

-- no repository, or the one that is named
unfoldable pub repos_of : Option (List ℕ × List ℕ) → Result (List Repo) CommitFault
repos_of None = Ok []
repos_of (Some p) = repo_of p.0 p.1 >>= λ repo. Ok (repo ∷ [])

abbrev pub refused_at : List ℕ → ℕ → List ℕ → List ℕ → ℕ → List ℕ
refused_at what code name where_ place =
    codes "refused " ++ (what ++ (codes " " ++ (decimal code ++ (codes " " ++ (name ++ (where_ ++ (decimal place ++ codes "\n")))))))

abbrev pub refused_commits : CommitFault → List ℕ
refused_commits (Stream e) = refused_at (codes "stream") (stream_fault.code_of e) (stream_fault.name_of e) (codes " at ") (stream_fault.offset_of e)
refused_commits (Graph e) = refused_at (codes "graph") (graph.code_of e) (graph.name_of e) (codes " at row ") (graph.row_of e)
