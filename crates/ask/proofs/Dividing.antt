-- Reading line after line up to the one that names a repository.
use Rattle.std.proofs.Common.{◌≡◌, ◌≤◌, ℕ, List, [], ◌∷◌, ◌++◌, length, Option, Some, None, Ok, refl, sym, ap, subst, ◌∙◌}
use Rattle.std.specs.Option.{option_map_or}
use Rattle.osv_prim.specs.Repos.{normal_repo}
use Rattle.osv_prim.specs.Results.{each, onto, Fails}
use Rattle.osv_prim.specs.declared.stop.Stop.{Stop}
use Rattle.osv_prim.specs.declared.stop.Stop.TheVariants as stop
use Rattle.osv_prim.proofs.Each.{reads_on, stops, ends, onto-none}
use Rattle.osv_record.specs.Advisories.{Advisory}
use Rattle.evaluate.specs.Kept.{KeepsEntries}
use Rattle.evaluate.specs.declared.git_imports.GitImports.{GitImports}
use Rattle.line_input.specs.Lines.{behind}
use Rattle.line_input.specs.Reader.{GivesLine, current, lines_behind}
use Rattle.line_input.specs.declared.reader.LineReader.{LineReader}
use Rattle.line_input.specs.declared.reader.Next.TheVariants.{Here, End}
use Rattle.ask.specs.Line.{read_line}
use Rattle.ask.specs.Parts.{Parts, divided, url_of, with_advisory}
use Rattle.ask.specs.Stops.{KeepsLine, ReadsParts, Stops, line_stop}
use Rattle.ask.specs.declared.line.LineFault.{LineFault}

module _ (input : List ℕ) where
  -- some lines were read as advisories, and none of them names a repository
  pub record HasDivided (all left : List (ℕ × List ℕ)) (held : GitImports) : Type 0 where
    pub imports : List Advisory
    pub so_far : onto imports (each read_line (divided input left).advisories) ≡ each read_line (divided input all).advisories
    pub repo : (divided input left).repo ≡ (divided input all).repo
    pub kept : KeepsEntries imports held

  pub divided_none : (all left : List (ℕ × List ℕ)) (kept : GitImports) → left ≡ all → KeepsEntries [] kept → HasDivided all left kept
  divided_none all left kept same e = record {
    imports = [];
    so_far = onto-none (each read_line (divided input left).advisories) ∙ ap (λ (ls : List (ℕ × List ℕ)). each read_line (divided input ls).advisories) same;
    repo = ap (λ (ls : List (ℕ × List ℕ)). (divided input ls).repo) same;
    kept = e;
  }

  division : (line : ℕ × List ℕ) (left : List (ℕ × List ℕ)) → Option (List ℕ) → Parts
  division line left url = option_map_or (λ url. record { advisories = []; repo = Some (url, behind line.0 input) }) url (with_advisory line (divided input left))

  next : (line : ℕ × List ℕ) (left : List (ℕ × List ℕ)) (url : Option (List ℕ)) → url_of line.1 ≡ url → divided input (line ∷ left) ≡ division line left url
  unfolding division
  next line left url e = ap (division line left) e

  -- the next line is an advisory
  goes_on : (all left : List (ℕ × List ℕ)) (line : ℕ × List ℕ) (kept : GitImports) → url_of line.1 ≡ None → (h : HasDivided all (line ∷ left) kept)
      → onto h.imports (each read_line (line ∷ (divided input left).advisories)) ≡ each read_line (divided input all).advisories
  unfolding division
  goes_on all left line kept e h = sym (ap (λ (p : Parts). onto h.imports (each read_line p.advisories)) (next line left None e)) ∙ h.so_far

  divided_more : (all left : List (ℕ × List ℕ)) (line : ℕ × List ℕ) (old new : GitImports) → url_of line.1 ≡ None → KeepsLine line old new → HasDivided all (line ∷ left) old → HasDivided all left new
  unfolding division
  divided_more all left line old new e k h = record {
    imports = h.imports ++ k.0 ∷ [];
    so_far = reads_on read_line h.imports line (divided input left).advisories k.0 (each read_line (divided input all).advisories) k.1 (goes_on all left line old e h);
    repo = sym (ap (λ (p : Parts). p.repo) (next line left None e)) ∙ h.repo;
    kept = k.2 h.imports h.kept;
  }

  -- ---- lines as they come

  here : (all : List (ℕ × List ℕ)) (old new : LineReader) (ln : Option (List ℕ)) (kept : GitImports) → GivesLine input old new ln (Ok Here) → HasDivided all (lines_behind old.passed input) kept
      → HasDivided all (current new ∷ lines_behind new.passed input) kept
  here all old new ln kept g h = subst (λ (ls : List (ℕ × List ℕ)). HasDivided all ls kept) (g.here refl) h

  pub divided_line : (all : List (ℕ × List ℕ)) (old new : LineReader) (ln : Option (List ℕ)) (kept after : GitImports) → GivesLine input old new ln (Ok Here) → url_of (current new).1 ≡ None
      → HasDivided all (lines_behind old.passed input) kept → KeepsLine (current new) kept after → HasDivided all (lines_behind new.passed input) after
  divided_line all old new ln kept after g e h k = divided_more all (lines_behind new.passed input) (current new) kept after e k (here all old new ln kept g h)

  pub divided_stops : (all : List (ℕ × List ℕ)) (old new : LineReader) (ln : Option (List ℕ)) (kept : GitImports) (d : Stop LineFault) → GivesLine input old new ln (Ok Here)
      → url_of (current new).1 ≡ None → HasDivided all (lines_behind old.passed input) kept → Fails d (read_line (current new)) → Stops input (divided input all) (line_stop d) new ln
  divided_stops all old new ln kept stop.Memory g e h f = tt
  divided_stops all old new ln kept (stop.Refused x) g e h f =
      let at = here all old new ln kept g h in
      let left = lines_behind new.passed input in
      (stops read_line at.imports (current new) (divided input left).advisories (stop.Refused x) (each read_line (divided input all).advisories) f (goes_on all left (current new) kept e at), g.stands)

  all_divided : (all left : List (ℕ × List ℕ)) (kept : GitImports) (r : LineReader) (ln : Option (List ℕ)) → left ≡ [] → HasDivided all left kept → length input ≤ r.limit
      → ReadsParts input (divided input all) (record { kept = kept; repo = None }) r ln
  all_divided all [] kept r ln none h within = record {
    imports = h.imports;
    advisories = ends read_line h.imports [] (each read_line (divided input all).advisories) refl h.so_far;
    kept = h.kept;
    repo = (sym h.repo, within);
  }
  all_divided all (line ∷ left) kept r ln none h within = absurd cc

  -- no line is left
  pub divided_to_end : (all : List (ℕ × List ℕ)) (old new : LineReader) (ln : Option (List ℕ)) (kept : GitImports) → GivesLine input old new ln (Ok End) → new.limit ≡ old.limit
      → HasDivided all (lines_behind old.passed input) kept → ReadsParts input (divided input all) (record { kept = kept; repo = None }) new ln
  divided_to_end all old new ln kept g l h =
      let e = g.end refl in all_divided all (lines_behind old.passed input) kept new ln e.0 h (subst (λ (n : ℕ). length input ≤ n) (sym l) e.1)

  -- the next line names a repository
  pub divided_at_repo : (all : List (ℕ × List ℕ)) (old new : LineReader) (ln : Option (List ℕ)) (kept : GitImports) (url key : List ℕ) → GivesLine input old new ln (Ok Here)
      → url_of (current new).1 ≡ Some url → key ≡ normal_repo url → HasDivided all (lines_behind old.passed input) kept → ReadsParts input (divided input all) (record { kept = kept; repo = Some key }) new ln
  unfolding division
  divided_at_repo all old new ln kept url key g is k h =
      let left = lines_behind new.passed input in
      let before = here all old new ln kept g h in
      let at : divided input (current new ∷ left) ≡ division (current new) left (Some url) = next (current new) left (Some url) is in
      record {
        imports = before.imports;
        advisories = ends read_line before.imports [] (each read_line (divided input all).advisories) refl
            (sym (ap (λ (p : Parts). onto before.imports (each read_line p.advisories)) at) ∙ before.so_far);
        kept = before.kept;
        repo = (url, behind new.passed input, sym before.repo ∙ ap (λ (p : Parts). p.repo) at, k, g.stands);
      }
