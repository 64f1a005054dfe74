-- Reading line after line.
use Rattle.std.proofs.Common.{◌≡◌, ◌≤◌, ℕ, List, [], ◌∷◌, ◌++◌, length, Option, Result, Ok, refl, sym, ap, subst, ◌∙◌}
use Rattle.osv_prim.specs.Results.{each, onto, Fails}
use Rattle.osv_prim.specs.declared.stop.Stop.{Stop}
use Rattle.osv_prim.specs.declared.stop.Stop.TheVariants as stop
use Rattle.osv_prim.specs.declared.subject.Subject.{Subject}
use Rattle.osv_prim.proofs.Each.{reads_on, stops, ends, onto-none}
use Rattle.osv_record.specs.Advisories.{Advisory}
use Rattle.evaluate.specs.Hits.{Repo, hit_ids}
use Rattle.evaluate.specs.Kept.{HoldsHits}
use Rattle.evaluate.specs.declared.hit_ids.HitIds.{HitIds}
use Rattle.line_input.specs.Reader.{GivesLine, current, lines_behind}
use Rattle.line_input.specs.declared.reader.LineReader.{LineReader}
use Rattle.line_input.specs.declared.reader.Next.TheVariants.{Here, End}
use Rattle.ask.specs.Asked.{FindsHits, TakesLine, answer, ids_output}
use Rattle.ask.specs.Commits.{repos_of}
use Rattle.ask.specs.Line.{read_line}
use Rattle.ask.specs.Parts.{advisories_alone}
use Rattle.ask.specs.Stops.{Finds, Stops, line_stop}
use Rattle.ask.specs.declared.line.LineFault.{LineFault}

module _ (subject : Subject) where
  -- some lines were read, and these are the hits among them
  pub record HasRead (all left : List (ℕ × List ℕ)) (found : HitIds) : Type 0 where
    pub imports : List Advisory
    pub so_far : onto imports (each read_line left) ≡ each read_line all
    pub hits : HoldsHits [] subject imports found

  pub has_read_none : (all left : List (ℕ × List ℕ)) (found : HitIds) → left ≡ all → HoldsHits [] subject [] found → HasRead all left found
  has_read_none all left found same e = record { imports = []; so_far = onto-none (each read_line left) ∙ ap (each read_line) same; hits = e }

  pub has_read_more : (all left : List (ℕ × List ℕ)) (line : ℕ × List ℕ) (old new : HitIds) → HasRead all (line ∷ left) old → TakesLine subject line old new → HasRead all left new
  has_read_more all left line old new h t =
      record {
        imports = h.imports ++ t.0 ∷ [];
        so_far = reads_on read_line h.imports line left t.0 (each read_line all) t.1 h.so_far;
        hits = t.2 h.imports h.hits;
      }

  pub has_stopped : (all left : List (ℕ × List ℕ)) (line : ℕ × List ℕ) (found : HitIds) (d : Stop LineFault) → HasRead all (line ∷ left) found → Fails d (read_line line) → Fails d (each read_line all)
  has_stopped all left line found d h f = stops read_line h.imports line left d (each read_line all) f h.so_far

  pub has_read_all : (all left : List (ℕ × List ℕ)) (found : HitIds) → HasRead all left found → left ≡ [] → FindsHits subject (each read_line all) found
  has_read_all all left found h none = (h.imports, ends read_line h.imports left (each read_line all) none h.so_far, h.hits)

  -- ---- lines as they come

  -- the next line was given
  here : (input : List ℕ) (all : List (ℕ × List ℕ)) (old new : LineReader) (ln : Option (List ℕ)) (found : HitIds) → GivesLine input old new ln (Ok Here) → HasRead all (lines_behind old.passed input) found
      → HasRead all (current new ∷ lines_behind new.passed input) found
  here input all old new ln found g h = subst (λ (ls : List (ℕ × List ℕ)). HasRead all ls found) (g.here refl) h

  pub has_read_line : (input : List ℕ) (all : List (ℕ × List ℕ)) (old new : LineReader) (ln : Option (List ℕ)) (found after : HitIds) → GivesLine input old new ln (Ok Here)
      → HasRead all (lines_behind old.passed input) found → TakesLine subject (current new) found after → HasRead all (lines_behind new.passed input) after
  has_read_line input all old new ln found after g h t = has_read_more all (lines_behind new.passed input) (current new) found after (here input all old new ln found g h) t

  pub stops_at_line : (input : List ℕ) (all : List (ℕ × List ℕ)) (old new : LineReader) (ln : Option (List ℕ)) (found : HitIds) (d : Stop LineFault) → GivesLine input old new ln (Ok Here)
      → HasRead all (lines_behind old.passed input) found → Fails d (read_line (current new)) → Stops input (advisories_alone all) (line_stop d) new ln
  stops_at_line input all old new ln found stop.Memory g h f = tt
  stops_at_line input all old new ln found (stop.Refused e) g h f =
      (has_stopped all (lines_behind new.passed input) (current new) found (stop.Refused e) (here input all old new ln found g h) f, g.stands)

  pub has_read_to_end : (input : List ℕ) (all : List (ℕ × List ℕ)) (old new : LineReader) (ln : Option (List ℕ)) (found : HitIds) → GivesLine input old new ln (Ok End)
      → HasRead all (lines_behind old.passed input) found → FindsHits subject (each read_line all) found × (length input ≤ old.limit)
  has_read_to_end input all old new ln found g h = let e = g.end refl in (has_read_all all (lines_behind old.passed input) found h e.0, e.1)

  -- the ids of the hits are the answer
  pub finds_hits : (input : List ℕ) (all : List (ℕ × List ℕ)) (limit : ℕ) (found : HitIds) (ids : List (List ℕ)) → FindsHits subject (each read_line all) found → length input ≤ limit
      → ((repos : List Repo) (asks : Subject) (imports : List Advisory) → HoldsHits repos asks imports found → ids ≡ hit_ids imports repos asks) → Finds input (advisories_alone all) limit subject ids
  unfolding repos_of
  finds_hits input all limit found ids f le same = record {
    answer = ap (λ (r : Result (List Advisory) LineFault). answer subject r (Ok [])) f.1 ∙ ap ids_output (sym (same [] subject f.0 f.2));
    within = le;
  }
