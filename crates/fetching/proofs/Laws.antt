-- What loading gives, by how finding a record or reading a line went.
use mathlib.Core.Path.{◌≡◌, sym, ap, ap₂, ◌∙◌}
use mathlib.Core.List.{List}
use Prim.Native.Nat.{ℕ, ◌+◌}
use Rattle.refusal.specs.declared.Refusal.{Refusal}
use Rattle.refusal.specs.Clash.{clash}
use Rattle.refusal.specs.Told.{told_injective}
use Rattle.refusal.specs.Order.{Verdict, no, yes, tells}
use Rattle.words.specs.Words.{part_of}
use Rattle.std.proofs.Common.{Result, Ok, Err}
use Rattle.finding.specs.declared.Place.{Place}
use Rattle.finding.specs.Answers.{locating, told_located}
use Rattle.line.specs.Line.{Model}
use Rattle.line.specs.Answers.{reading_of, told_answer, answered, name_left, record_left, Reads}
use Rattle.listed.specs.Listed.{unpadded}
use Rattle.model.specs.Board.{Board}
use Rattle.model.specs.Model.{refuse, loaded_of}
use Rattle.fetching.specs.Fetched.{loaded_at, name_loaded_of, no_name, no_record, loaded_by, line_loaded_of}

module _ (b : Board) (name library : List ℕ) {a : Result Place Refusal} (p : told_located a ≡ tells (locating library name))
  where
    -- the record that was found
    pub found_loads : {r : Place} → a ≡ Ok r → {bytes : List ℕ} →
        bytes ≡ part_of library r.at (r.at + r.size) → loaded_of b name bytes ≡ name_loaded_of b name library
    unfolding name_loaded_of
    found_loads {r} e {bytes} q = go (locating library name) (sym (ap told_located e) ∙ p)
      where
        go : (v : Verdict (ℕ × ℕ)) → told_located (Ok r) ≡ tells v →
            loaded_of b name bytes ≡ loaded_at b name library v
        go (no f) t = clash cc
        go (yes w) t = ap (loaded_of b name) (q ∙ ap (λ (x : ℕ × ℕ). part_of library x.0 (x.0 + x.1)) cc)

    -- none was
    pub lost_loads : {f : Refusal} → a ≡ Err f → refuse b f ≡ name_loaded_of b name library
    unfolding name_loaded_of
    lost_loads {f} e = go (locating library name) (sym (ap told_located e) ∙ p)
      where
        go : (v : Verdict (ℕ × ℕ)) → told_located (Err f) ≡ tells v → refuse b f ≡ loaded_at b name library v
        go (no g) t = ap (refuse b) (told_injective f g cc)
        go (yes w) t = clash cc

module _ (b : Board) (line : List ℕ) {name rec : List ℕ} {a : Result (Unit {0}) Refusal} (p : Reads line no_name no_record a name rec)
  where
    -- a line that was taken is loaded as it stands in the buffers
    pub taken_loads : {u : Unit {0}} → a ≡ Ok u → {n : List ℕ} → n ≡ unpadded name → loaded_of b n rec ≡ line_loaded_of b line
    unfolding line_loaded_of
    taken_loads {u} e {n} q =
        go (reading_of line no_name no_record) (sym (ap told_answer e) ∙ p.told) (q ∙ ap unpadded p.named) p.worded
      where
        go : (v : Verdict Model) → told_answer (Ok u) ≡ tells (answered v) → n ≡ unpadded (name_left v no_name) →
            rec ≡ record_left v no_record → loaded_of b n rec ≡ loaded_by b v
        go (no f) t g h = clash cc
        go (yes m) t g h = ap₂ (loaded_of b) g h

    -- one that was refused
    pub refused_loads : {f : Refusal} → a ≡ Err f → refuse b f ≡ line_loaded_of b line
    unfolding line_loaded_of
    refused_loads {f} e = go (reading_of line no_name no_record) (sym (ap told_answer e) ∙ p.told)
      where
        go : (v : Verdict Model) → told_answer (Err f) ≡ tells (answered v) → refuse b f ≡ loaded_by b v
        go (no g) t = ap (refuse b) (told_injective f g cc)
        go (yes m) t = clash cc
