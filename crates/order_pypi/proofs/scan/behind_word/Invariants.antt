use Rattle.std.proofs.Common.{◌≡◌, length}
use Rattle.order_pypi.specs.Grammar.{behind_word}
use Rattle.order_pypi.proofs.scan.behind_word.Given as goal

abbrev pub invariant-loop-letters : goal.invariant-loop-letters
invariant-loop-letters l = behind_word l.letters l.rest ≡ behind_word l.word l.text

abbrev pub decreases-loop-letters : goal.decreases-loop-letters
decreases-loop-letters l = length l.letters
