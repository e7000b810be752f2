-- What a loop over reads or writes has done so far.
use Rattle.std.proofs.Common.{◌≡◌, ℕ, ◌+◌, ◌-◌, ◌<◌, ◌≤◌, List, [], ◌++◌, Option, None, Some, IfSome, IsSomeAnd, length, take, drop, refl, subst, sym, ap, ◌∙◌, arith, take-add, length-append, length-take-le}
use Rattle.std.specs.Io.KnownBytes.{Appends, Consumes}
use Rattle.std.proofs.KnownBytes.{Appends-trans, Consumes-trans, Consumes-nil}
use Rattle.std.proofs.lemmas.List.{take_rest}
use Rattle.qsr_outside.specs.Counts.{RoseBy}

-- the first `written` bytes were written
pub record WroteSoFar (old new : Option (List ℕ)) (old_faults new_faults : ℕ) (bytes : List ℕ) (written : ℕ) : Type 0 where
  pub within : written ≤ length bytes
  pub appended : Appends old new (take written bytes)
  pub faults : new_faults ≡ old_faults

-- a write that took n of the bytes that were to be written
pub wrote_more : (a b c : Option (List ℕ)) (f g h : ℕ) (bytes : List ℕ) (w n : ℕ)
    → WroteSoFar a b f g bytes w → w + n ≤ length bytes → Appends b c (take n (take (length bytes - w) (drop w bytes))) → h ≡ g → WroteSoFar a c f h bytes (w + n)
wrote_more a b c f g h bytes w n before fits more faults = record {
  within = fits;
  appended = subst (Appends a c) (sym (take-add w n bytes)) (Appends-trans a b c _ _ before.appended (rw take_rest at more));
  faults = faults ∙ before.faults;
}

-- `bytes` were read
pub record ReadSoFar (old new : Option (List ℕ)) (old_given new_given old_faults new_faults limit : ℕ) (bytes : List ℕ) : Type 0 where
  pub within : length bytes ≤ limit
  pub consumed : Consumes old new bytes
  pub counted : RoseBy old_given new_given (length bytes)
  pub faults : new_faults ≡ old_faults

-- what is consumed is no longer than what was left
left_is_longer : (a b : Option (List ℕ)) (bytes : List ℕ) (limit : ℕ) → Consumes a b bytes → limit < length bytes → IfSome a (λ xs. limit < length xs)
left_is_longer None b bytes limit consumed longer = tt
left_is_longer (Some xs) None bytes limit consumed longer = absurd consumed
left_is_longer (Some xs) (Some ys) bytes limit consumed longer =
    let long : length xs ≡ length bytes + length ys = ap length consumed ∙ length-append bytes ys in omega arith

-- an object that tells that at most the limit is left has no more
told_is_not_longer : (a : Option (List ℕ)) (limit : ℕ) → IfSome a (λ xs. limit < length xs) → IsSomeAnd a (λ xs. length xs ≤ limit) → ⊥
told_is_not_longer None limit longer told = told
told_is_not_longer (Some xs) limit longer told = absurd (omega arith)

-- the first n bytes of a buffer were read after `bytes`
module _ (a b c : Option (List ℕ)) (g0 g1 f0 f1 limit : ℕ) (bytes buffer : List ℕ) (n : ℕ)
    (before : ReadSoFar a b g0 g1 f0 f1 limit bytes) (consumed : Consumes b c (take n buffer)) (within : n ≤ length buffer) where
  length-joined : length (bytes ++ take n buffer) ≡ length bytes + n
  length-joined = length-append bytes (take n buffer) ∙ ap (λ k. length bytes + k) (length-take-le n buffer within)

  -- they were too many
  pub read_too_much : limit - length bytes < n → IfSome a (λ xs. limit < length xs)
  read_too_much above = left_is_longer a c (bytes ++ take n buffer) limit (Consumes-trans a b c _ _ before.consumed consumed) (omega (arith, length-joined))

  pub read_too_much_untold : limit - length bytes < n → IsSomeAnd a (λ xs. length xs ≤ limit) → ⊥
  read_too_much_untold above = told_is_not_longer a limit (read_too_much above)

  pub read_more : (g2 f2 : ℕ) (new : List ℕ) → RoseBy g1 g2 n → f2 ≡ f1 → new ≡ bytes ++ take n buffer → n ≤ limit - length bytes
      → ReadSoFar a c g0 g2 f0 f2 limit new
  read_more g2 f2 new counted faults is fits =
      let long : length new ≡ length bytes + n = ap length is ∙ length-joined in
      let short = before.within in
      record {
        within = omega arith;
        consumed = subst (Consumes a c) (sym is) (Consumes-trans a b c _ _ before.consumed consumed);
        counted = record { never_fell = omega (arith, before.counted, counted); at_most = omega (arith, before.counted, counted); at_least = omega (arith, before.counted, counted) };
        faults = faults ∙ before.faults;
      }

-- nothing was read yet
pub read_none : (a : Option (List ℕ)) (given faults limit : ℕ) (bytes : List ℕ) → bytes ≡ [] → ReadSoFar a a given given faults faults limit bytes
read_none a given faults limit bytes is =
    let long : length bytes ≡ 0 = ap length is in
    record {
      within = omega arith;
      consumed = subst (Consumes a a) (sym is) (Consumes-nil a);
      counted = record { never_fell = omega arith; at_most = omega arith; at_least = omega arith };
      faults = refl;
    }
