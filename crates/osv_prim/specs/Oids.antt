-- The ids of git objects, as twenty bytes and as forty hex digits (git's documentation, "gitglossary": object name).
use Rattle.std.specs.Prelude.{ℕ, List, Option}
use Rattle.std.specs.Result.{result_ok}
use Rattle.hex.specs.Hex.{decode_sized, encode_lower}

-- the twenty bytes that forty hex digits of either case stand for
unfoldable pub oid_of : List ℕ → Option (List ℕ)
oid_of text = result_ok (decode_sized text 20)

-- two digits for each byte, with small letters
unfoldable pub text_of : List ℕ → List ℕ
text_of bytes = encode_lower bytes
