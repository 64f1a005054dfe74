-- Numbers stay as keys are added, and of an advisory without a GIT range there are none.
use Rattle.std.proofs.Common.{◌≡◌, ℕ, ◌+◌, Bool, true, false, cond, ◌||◌, List, [], ◌∷◌, ◌++◌, Option, Some, None, refl, sym, ap, subst, ◌∙◌, append_assoc, append-nil}
use Rattle.std.specs.Prelude.{is_some, option_to_list}
use Rattle.std.specs.List.{AllByRecursion, AllZip, flat_map}
use Rattle.std.proofs.lemmas.Bool.{true≢false}
use Rattle.std.proofs.lemmas.List.Concat.{flat_map-append}
use Rattle.std.proofs.lemmas.List.Elements.{All-from_recursion}
use Rattle.osv_record.specs.Advisories.{Advisory, Entry, Extent, has_repo, has_repos, is_git}
use Rattle.history.specs.Pieces.{ranges_from, ranges_of, ranges_of_entries}
use Rattle.package_index.proofs.Numbering.{some-stays}
use Rattle.std.specs.Str.{bytes_eq}
use Rattle.repo_index.specs.Numbers.{AreNumbers, AreNumbersOf, HasRepo, HasRepos, IsNumberOf, KeepNumbers, entry_keys, git_keys, range_keys}
use Rattle.repo_index.proofs.Zipped.{zip-weaker}

-- ---- a key more

pub key-more : (keys : List (List ℕ)) (key : List ℕ) → KeepNumbers keys (keys ++ key ∷ [])
key-more keys key other n is = some-stays (bytes_eq other) keys key n is

module _ (old new : List (List ℕ)) (keep : KeepNumbers old new) where
  pub numbers-kept : (own : List (List ℕ)) (numbers : List ℕ) → AreNumbers old own numbers → AreNumbers new own numbers
  numbers-kept own numbers are = zip-weaker (IsNumberOf old) (IsNumberOf new) keep own numbers are

  pub of-kept : (r : Advisory) (numbers : List ℕ) → AreNumbersOf old r numbers → AreNumbersOf new r numbers
  of-kept r numbers are = record { numbers = numbers-kept (git_keys r) numbers are.numbers; repos = are.repos }

  pub all-kept : (rs : List Advisory) (own : List (List ℕ)) → AllZip (AreNumbersOf old) rs own → AllZip (AreNumbersOf new) rs own
  all-kept rs own are = zip-weaker (AreNumbersOf old) (AreNumbersOf new) of-kept rs own are

-- those of one more
pub keys-more : {X : Type 0} (keys_of : X → List (List ℕ)) (before : List (List ℕ)) (xs : List X) (x : X) (longer : List X) → longer ≡ xs ++ x ∷ []
    → (before ++ flat_map keys_of xs) ++ keys_of x ≡ before ++ flat_map keys_of longer
keys-more {X} keys_of before xs x longer is =
    append_assoc before (flat_map keys_of xs) (keys_of x)
    ∙ ap (λ (ks : List (List ℕ)). before ++ ks)
    (ap (λ (ks : List (List ℕ)). flat_map keys_of xs ++ ks) (sym (append-nil (keys_of x))) ∙ sym (flat_map-append keys_of xs (x ∷ [])) ∙ ap (flat_map keys_of) (sym is))

-- ---- no numbers

pub of-withdrawn : (keys : List (List ℕ)) (r : Advisory) → r.withdrawn ≡ true → AreNumbersOf keys r []
of-withdrawn keys r gone =
    record {
      numbers = subst (λ (w : Bool). AreNumbers keys (cond w [] (flat_map entry_keys r.affected)) []) (sym gone) tt;
      repos = λ is. absurd (true≢false (sym gone ∙ is));
    }

neither : (a b : Bool) → (a || b) ≡ false → (a ≡ false) × (b ≡ false)
neither true b e = absurd cc
neither false b e = (refl, e)

none-there : {X : Type 0} (b : Bool) (x : X) (xs : List X) → cond b (x ∷ xs) xs ≡ [] → (b ≡ false) × (xs ≡ [])
none-there true x xs e = absurd cc
none-there false x xs e = (refl, e)

both-none : {X : Type 0} (xs ys : List X) → xs ++ ys ≡ [] → (xs ≡ []) × (ys ≡ [])
both-none [] ys e = (refl, e)
both-none (x ∷ xs) ys e = absurd cc

no-key : (o : Option (List ℕ)) → is_some o ≡ false → option_to_list o ≡ []
no-key None e = refl
no-key (Some key) e = absurd cc

no-ranges : (r : Advisory) (e j : ℕ) (xs : List Extent) → ranges_from r e j xs ≡ [] → has_repo xs ≡ false → (flat_map range_keys xs ≡ []) × AllByRecursion HasRepo xs
no-ranges r e j [] none free = (refl, tt)
no-ranges r e j (x ∷ xs) none free =
    let parts = neither (is_some x.repo) (has_repo xs) free in
    let git = none-there (is_git x.kind) (record { advisory = r; entry = e; range = j; extent = x }) (ranges_from r e (j + 1) xs) none in
    let later = no-ranges r e (j + 1) xs git.1 parts.1 in
    (ap (λ (ks : List (List ℕ)). ks ++ flat_map range_keys xs) (no-key x.repo parts.0) ∙ later.0, (parts.0 ∙ sym git.0, later.1))

no-entries : (r : Advisory) (e : ℕ) (entries : List Entry) → ranges_of_entries r e entries ≡ [] → has_repos entries ≡ false → (flat_map entry_keys entries ≡ []) × AllByRecursion HasRepos entries
no-entries r e [] none free = (refl, tt)
no-entries r e (a ∷ entries) none free =
    let parts = neither (has_repo a.ranges) (has_repos entries) free in
    let git = both-none (ranges_from r e 0 a.ranges) (ranges_of_entries r (e + 1) entries) none in
    let first = no-ranges r e 0 a.ranges git.0 parts.0 in
    let later = no-entries r (e + 1) entries git.1 parts.1 in
    (ap (λ (ks : List (List ℕ)). ks ++ flat_map entry_keys entries) first.0 ∙ later.0, (All-from_recursion HasRepo a.ranges first.1, later.1))

pub of-none : (keys : List (List ℕ)) (r : Advisory) → ranges_of r ≡ [] → has_repos r.affected ≡ false → AreNumbersOf keys r []
of-none keys r none free =
    let are = no-entries r 0 r.affected none free in
    record {
      numbers = by r.withdrawn;
      repos = λ is. All-from_recursion HasRepos r.affected are.1;
    }
  where
    by : (w : Bool) → AreNumbers keys (cond w [] (flat_map entry_keys r.affected)) []
    by true = tt
    by false = subst (λ (ks : List (List ℕ)). AreNumbers keys ks []) (sym ((no-entries r 0 r.affected none free).0)) tt
