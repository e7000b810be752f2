-- The values of lists, an entry at a time.
use Rattle.std.proofs.Common.{◌≡◌, ℕ, suc, ◌+◌, ◌<◌, ◌≤◌, ◌==◌, List, [], ◌∷◌, ◌++◌, length, get_or, take, drop, map, Some, Result, Ok, Err, refl, sym, ap, ◌∙◌, arith}
use Rattle.std.proofs.lemmas.List.{take_more, map_push, map-append, take-append-drop, length-map, length-take, take_all}
use Rattle.std.proofs.Math.Seq.{drop-cons}
use Rattle.serde_json.specs.Data.{Data}
use Rattle.serde_json.specs.Find.{as_array}
use Rattle.serde_json.specs.View.{view, items_of, items_view}
use Rattle.serde_json.specs.declared.value.Value.{Value}
use Rattle.serde_json.proofs.Views.{items_len-items_view}
use Rattle.cert_file.specs.Parts.{entry_list, entries, has_count, with_first, values, list_of}
use Rattle.cert_file.specs.declared.fault.Wrong.{Wrong}
use Rattle.cert_file.specs.declared.fault.Wrong.TheVariants.{At, Memory}

-- ---- arrays

pub entry_list-items_of : (ds : List Data) → entry_list (items_of ds) ≡ ds
entry_list-items_of [] = refl
entry_list-items_of (d ∷ ds) = ap (λ xs. d ∷ xs) (entry_list-items_of ds)

pub entries-array : (d : Data) (vs : List Value) → Some (items_view vs) ≡ as_array d → entries d ≡ Ok (map view vs)
entries-array d vs e = rw (← e) (ap Ok (entry_list-items_of (map view vs)))

pub has_count-array : (n : ℕ) (d : Data) (vs : List Value) → Some (items_view vs) ≡ as_array d → has_count n d ≡ (length vs == n)
has_count-array n d vs e = rw (← e) (ap (λ k. k == n) (items_len-items_view vs))

-- ---- values

module _ {A : Type 0} (f : Data → Result A Wrong) where
  put_last : (r : Result A Wrong) (rest : Result (List A) Wrong) (more : Result (List A) Wrong) (y : A) →
      ((ys : List A) → rest ≡ Ok ys → more ≡ Ok (ys ++ y ∷ [])) → (ys : List A) → with_first r rest ≡ Ok ys → with_first r more ≡ Ok (ys ++ y ∷ [])
  put_last (Err e) rest more y h ys is = absurd (cc)
  put_last (Ok x) (Err (At i)) more y h ys is = absurd (cc)
  put_last (Ok x) (Err Memory) more y h ys is = absurd (cc)
  put_last (Ok x) (Ok xs) more y h ys is =
      let same : x ∷ xs ≡ ys = cc in
      ap (with_first (Ok x)) (h xs refl) ∙ ap (λ l. Ok (l ++ y ∷ [])) same

  pub values-push : (ds : List Data) (d : Data) (ys : List A) (y : A) → values f ds ≡ Ok ys → f d ≡ Ok y → values f (ds ++ d ∷ []) ≡ Ok (ys ++ y ∷ [])
  values-push [] d ys y done here =
      let none : [] ≡ ys = cc in
      rw here (ap (λ l. Ok (l ++ y ∷ [])) none)
  values-push (e ∷ ds) d ys y done here =
      put_last (f e) (values f ds) (values f (ds ++ d ∷ [])) y (λ zs is. values-push ds d zs y is here) ys done

  later : (r : Result A Wrong) (rest : Result (List A) Wrong) (more : Result (List A) Wrong) (i : ℕ) →
      ((ys : List A) → rest ≡ Ok ys → more ≡ Err (At i)) → (ys : List A) → with_first r rest ≡ Ok ys → with_first r more ≡ Err (At (i + 1))
  later (Err e) rest more i h ys is = absurd (cc)
  later (Ok x) (Err (At j)) more i h ys is = absurd (cc)
  later (Ok x) (Err Memory) more i h ys is = absurd (cc)
  later (Ok x) (Ok xs) more i h ys is = ap (with_first (Ok x)) (h xs refl)

  pub values-wrong : (ds : List Data) (d : Data) (rest : List Data) (ys : List A) (w : Wrong) → values f ds ≡ Ok ys → f d ≡ Err w →
      values f (ds ++ d ∷ rest) ≡ Err (At (length ds))
  values-wrong [] d rest ys w done here = rw here
  values-wrong (e ∷ ds) d rest ys w done here =
      later (f e) (values f ds) (values f (ds ++ d ∷ rest)) (length ds) (λ zs is. values-wrong ds d rest zs w is here) ys done
      ∙ ap (λ n. Err (At n)) (omega arith)

  -- one entry more
  pub values-more : (xs : List Value) (i : ℕ) (x : Value) (ys : List A) (y : A) → i < length xs → x ≡ get_or xs i x →
      values f (map view (take i xs)) ≡ Ok ys → f (view x) ≡ Ok y → values f (map view (take (i + 1) xs)) ≡ Ok (ys ++ y ∷ [])
  values-more xs i x ys y inside is done here =
      ap (λ l. values f (map view l)) (take_more xs i x inside)
      ∙ ap (values f) (map_push view (take i xs) (get_or xs i x))
      ∙ ap (λ v. values f (map view (take i xs) ++ view v ∷ [])) (sym is)
      ∙ values-push (map view (take i xs)) (view x) ys y done here

  -- a wrong entry
  pub values-stop : (xs : List Value) (i : ℕ) (x : Value) (ys : List A) (w : Wrong) → i < length xs → x ≡ get_or xs i x →
      values f (map view (take i xs)) ≡ Ok ys → f (view x) ≡ Err w → values f (map view xs) ≡ Err (At i)
  values-stop xs i x ys w inside is done here =
      let split : map view xs ≡ map view (take i xs) ++ view x ∷ map view (drop (suc i) xs) =
      ap (map view) (sym (take-append-drop i xs)) ∙ map-append view (take i xs) (drop i xs)
      ∙ ap (λ l. map view (take i xs) ++ map view l) (drop-cons xs i x inside)
      ∙ ap (λ v. map view (take i xs) ++ view v ∷ map view (drop (suc i) xs)) (sym is) in
      let long : length (map view (take i xs)) ≡ i = omega (arith, length-map (take i xs) view, length-take i xs) in
      ap (values f) split ∙ values-wrong (map view (take i xs)) (view x) (map view (drop (suc i) xs)) ys w done here ∙ ap (λ n. Err (At n)) long

  pub list_of-entries : (d : Data) (ds : List Data) → entries d ≡ Ok ds → list_of f d ≡ values f ds
  list_of-entries d ds e = rw e

  -- no entry is left
  pub values-all : (xs : List Value) (i : ℕ) (ys : List A) → length xs ≤ i → values f (map view (take i xs)) ≡ Ok ys → values f (map view xs) ≡ Ok ys
  values-all xs i ys over done = ap (λ l. values f (map view l)) (sym (take_all i xs over)) ∙ done
