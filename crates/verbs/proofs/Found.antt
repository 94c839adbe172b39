-- The table of the commands as the code has it, searched word by word.
use mathlib.Core.Path.{◌≡◌, sym, ap, ◌∙◌}
use mathlib.Core.Bool.{Bool, true, false}
use mathlib.Core.List.{List, ◌∷◌, map}
use Prim.Native.Nat.{ℕ, suc, ◌+◌, ◌<◌}
use native.Mathlib.Numerals.{add-one}
use denote.Ref.{Bor}
use lib.Dec.{eqb}
use lib.Pointwise.{pointwise}
use lib.ListN.{length, drop, get_or}
use lib.Seq.{drop-cons}
use Rattle.name.specs.Name.{same}
use Rattle.name.proofs.Equal.{same_bytes}
use Rattle.verbs.specs.declared.Row.{Row}
use Rattle.verbs.specs.declared.Verb.{Verb}
use Rattle.verbs.specs.declared.Wants.{Wants}
use Rattle.verbs.specs.Table.{Entry, no_row, place_in, row_named}

abbrev pub Item : Type 0
Item = Bor (List ℕ) × Verb × Wants

abbrev pub entry_of : Item → Entry
entry_of x = record { word = x.0.now; row = record { verb = x.1; wants = x.2 } }

-- the row of a word by a table
abbrev pub row_in : List ℕ → List Entry → Row
row_in w l = get_or (map (λ (e : Entry). e.row) l) (place_in w l) no_row

-- the entries from i on tell
abbrev pub Ahead : List ℕ → List Item → ℕ → Type 0
Ahead w items i = row_in w (map entry_of (drop i items)) ≡ row_named w

module _ (w : List ℕ) (e : Entry) (l : List Entry) where
  pub row_here : same w e.word ≡ true → row_in w (e ∷ l) ≡ e.row
  unfolding place_in
  row_here h = rw h

  pub row_on : same w e.word ≡ false → row_in w (e ∷ l) ≡ row_in w l
  unfolding place_in
  row_on h = rw h

module _ (w : List ℕ) (items : List Item) (i : ℕ) (h : i < length items) (v : Ahead w items i) (d : Item) {r : Bool}
    (is : r ≡ pointwise eqb w (get_or items i d).0.now) where
  abbrev item : Entry
  item = entry_of (get_or items i d)

  split : row_in w (item ∷ map entry_of (drop (suc i) items)) ≡ row_named w
  split = ap (λ (l : List Item). row_in w (map entry_of l)) (sym (drop-cons items i d h)) ∙ v

  told : {t : Bool} → r ≡ t → same w item.word ≡ t
  told e = sym (same_bytes w item.word) ∙ sym is ∙ e

  pub found : r ≡ true → item.row ≡ row_named w
  found e = sym (row_here w item (map entry_of (drop (suc i) items)) (told e)) ∙ split

  pub passed : r ≡ false → Ahead w items (i + 1)
  passed e =
      ap (λ (n : ℕ). row_in w (map entry_of (drop n items))) (add-one i)
      ∙ sym (row_on w item (map entry_of (drop (suc i) items)) (told e)) ∙ split
