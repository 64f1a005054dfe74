-- The normal spelling of parts reads back to them.
use Rattle.std.proofs.Common.{◌≡◌, ℕ, true, false, List, ◌++◌, map, Option, ap, ◌∙◌}
use Rattle.std.proofs.lemmas.Bool.{and_from}
use Rattle.std.specs.Char.{is_ascii_digit}
use Rattle.std.specs.List.{list_all}
use Rattle.osv_prim.specs.Digits.{behind_digits}
use Rattle.order_pypi.specs.declared.word.PreWord.{PreWord}
use Rattle.order_pypi.specs.Grammar.{behind_dev, behind_epoch, behind_local, behind_post, behind_pre, behind_release, dev_of, epoch_of, is_bang, local_of, post_of, pre_of, release_of, spelled, starts}
use Rattle.order_pypi.specs.Key.{Parts}
use Rattle.order_pypi.specs.Reading.{at_dev, at_end, at_epoch, at_local, at_post, at_pre, at_release, is_empty, is_version, parts}
use Rattle.order_pypi.specs.Spelling.{AreNormal, dev_spelling, epoch_spelling, local_spelling, post_on, post_spelling, pre_on, pre_spelling, spelling}
use Rattle.order_pypi.proofs.SpelledWords.{dev_ends, dev_reads, local_ends, local_reads, post_ends, post_reads, pre_ends, pre_reads}
use Rattle.order_pypi.proofs.SpelledReleases.{ends, epoch_begins, epoch_ends, epoch_reads, pre_no_bang, pre_stops, release_ends, release_no_bang, release_reads, starts_more}
use Rattle.order_pypi.proofs.SpelledBytes.{appended, dev_solid, epoch_at, epoch_solid, is_solid, local_solid, post_solid, pre_solid, release_solid}

abbrev made : List ℕ → List ℕ → Option (PreWord × List ℕ) → Option (List ℕ) → Option (List ℕ) → List ℕ → Parts
made epoch release pre post dev local = record { epoch = epoch; release = release; pre = pre; post = post; dev = dev; local = local }

module _ (p : Parts) (n : AreNormal p) where
  all_solid : list_all is_solid (spelling p) ≡ true
  all_solid =
      appended (epoch_spelling p.epoch) (p.release ++ pre_on p) (epoch_solid p.epoch n.epoch)
      (appended p.release (pre_on p) (release_solid p.release n.release)
      (appended (pre_spelling p.pre) (post_on p) (pre_solid p.pre n.pre)
      (appended (post_spelling p.post) (dev_spelling p.dev ++ local_spelling p.local) (post_solid p.post n.post)
      (appended (dev_spelling p.dev) (local_spelling p.local) (dev_solid p.dev n.dev) (local_solid p.local n.local)))))

  begins : starts is_ascii_digit (p.release ++ pre_on p) ≡ true
  begins = starts_more is_ascii_digit p.release (pre_on p) n.begins

  no_bang_on : starts is_bang (behind_digits (p.release ++ pre_on p)) ≡ false
  no_bang_on = release_no_bang p.release (pre_on p) n.release (pre_no_bang p.pre p.post p.dev p.local)

  stops : ends (pre_on p) ≡ true
  stops = pre_stops p.pre p.post p.dev p.local

  first : at_epoch (spelling p) ≡ spelling p
  first = epoch_at (spelling p) all_solid (epoch_begins p.epoch (p.release ++ pre_on p) n.epoch begins)

  release_at : at_release (spelling p) ≡ p.release ++ pre_on p
  release_at = ap behind_epoch first ∙ epoch_ends p.epoch (p.release ++ pre_on p) n.epoch no_bang_on

  pre_at : at_pre (spelling p) ≡ pre_on p
  pre_at = ap behind_release release_at ∙ release_ends p.release (pre_on p) n.release stops

  post_at : at_post (spelling p) ≡ post_on p
  post_at = ap behind_pre pre_at ∙ pre_ends p.pre p.post p.dev p.local n.pre

  dev_at : at_dev (spelling p) ≡ dev_spelling p.dev ++ local_spelling p.local
  dev_at = ap behind_post post_at ∙ post_ends p.post p.dev p.local n.post

  local_at : at_local (spelling p) ≡ local_spelling p.local
  local_at = ap behind_dev dev_at ∙ dev_ends p.dev p.local n.dev

  pub is_read : is_version (spelling p) ≡ true
  is_read =
      and_from (starts is_ascii_digit (at_release (spelling p))) (is_empty (at_end (spelling p)))
      (ap (starts is_ascii_digit) release_at ∙ begins) (ap (λ (t : List ℕ). is_empty (behind_local t)) local_at ∙ ap is_empty (local_ends p.local n.local))

  pub reads_back : parts (spelling p) ≡ p
  reads_back =
      let epoch = ap epoch_of first ∙ epoch_reads p.epoch (p.release ++ pre_on p) n.epoch no_bang_on in
      let release = ap release_of release_at ∙ release_reads p.release (pre_on p) n.release stops in
      let pre = ap pre_of pre_at ∙ pre_reads p.pre p.post p.dev p.local n.pre in
      let post = ap post_of post_at ∙ post_reads p.post p.dev p.local n.post in
      let dev = ap dev_of dev_at ∙ dev_reads p.dev p.local n.dev in
      let local = ap (λ (t : List ℕ). map spelled (local_of t)) local_at ∙ local_reads p.local n.local in
      ap (λ x. made x (release_of (at_release (spelling p))) (pre_of (at_pre (spelling p))) (post_of (at_post (spelling p))) (dev_of (at_dev (spelling p))) (map spelled (local_of (at_local (spelling p))))) epoch
      ∙ ap (λ x. made p.epoch x (pre_of (at_pre (spelling p))) (post_of (at_post (spelling p))) (dev_of (at_dev (spelling p))) (map spelled (local_of (at_local (spelling p))))) release
      ∙ ap (λ x. made p.epoch p.release x (post_of (at_post (spelling p))) (dev_of (at_dev (spelling p))) (map spelled (local_of (at_local (spelling p))))) pre
      ∙ ap (λ x. made p.epoch p.release p.pre x (dev_of (at_dev (spelling p))) (map spelled (local_of (at_local (spelling p))))) post
      ∙ ap (λ x. made p.epoch p.release p.pre p.post x (map spelled (local_of (at_local (spelling p))))) dev
      ∙ ap (λ x. made p.epoch p.release p.pre p.post p.dev x) local
