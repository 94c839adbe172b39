-- A library mended: the header, the names and all other words stay, it is sound, and mending it again changes nothing.
use mathlib.Core.Path.{◌≡◌, sym, ◌∙◌, ap, ap₂, subst}
use mathlib.Core.Bool.{true, false, cond}
use mathlib.Core.List.{List, [], ◌++◌, map}
use Prim.Native.Nat.{ℕ, ◌+◌, ◌*◌, ◌<◌, ◌≤◌}
use native.Mathlib.Nat.{mul_assoc}
use native.Mathlib.Omega.{arith}
use lib.ListN.{length, take, drop, get_or, length-append, length-drop, take-append-drop}
use lib.Seq.{length-take-le, take_at, drop_at, drop-drop}
use Rattle.bytes_le.specs.Le.{le, word_bytes}
use Rattle.refusal.specs.Order.{yes}
use Rattle.clip.specs.Numbers as number
use Rattle.clip.specs.Record.{word_at}
use Rattle.roll.specs.Directory.{name_bytes, cut}
use Rattle.directory.specs.Format.{words_of, records_at, header_bytes, version, count, headed, directory, records}
use Rattle.directory.specs.Judged.{Sound, numbers_of}
use Rattle.directory.proofs.Headers.{sized, known_width}
use Rattle.directory.proofs.Verdicts.{SoundLibrary, SoundNames, library_yes, library_pass}
use Rattle.finding.specs.Answers.{record_of, handed}
use Rattle.signals.specs.Records.{signals, icss_end, mended_record, mended_all, signalling}
use Rattle.mending.specs.Mended.{records_in, mended_of, count_of}
use Rattle.mending.proofs.Outcomes.{has_icss}
use Rattle.mending_laws.proofs.OneRecord.{same_part}
use Rattle.mending_laws.proofs.AllRecords.{AllLong, cut_long, cut_at, quiet_same, length_cut, cut_again}
use Rattle.mending_laws.proofs.AllRecords.{all_quiet, other_words_at, icss_at_lem, quiet_at}

-- the bytes of a record
abbrev record_bytes : List ℕ → ℕ
record_bytes s = word_bytes * words_of (version s)

module _ (s : List ℕ) (g : Sound s) where
  sound : SoundLibrary s
  sound = (library_yes s g).0

  wide : icss_end ≤ record_bytes s
  wide = has_icss (version s) (known_width s sound.header)

  some : 0 < record_bytes s
  some = let h = wide in omega arith

  whole : length s ≡ records_at (count s) + (record_bytes s) * (count s)
  whole =
      (sized s sound.header).long
      ∙ ap (λ (m : ℕ). records_at (count s) + m) (sym (mul_assoc word_bytes _ (count s)))

  records_long : length (records s) ≡ (record_bytes s) * (count s)
  records_long = length-drop (records_at (count s)) s ∙ (let l = whole in omega arith)

  long : AllLong (record_bytes s) (records_in s)
  long = cut_long (record_bytes s) (count s) (records s) records_long some

  -- ---- the first bytes
  head_long : length (take (records_at (count s)) s) ≡ records_at (count s)
  head_long = length-take-le (records_at (count s)) s (let l = whole in omega arith)

  -- the header and the names stay
  pub start_stays : take (records_at (count s)) (mended_of s) ≡ take (records_at (count s)) s
  unfolding mended_of
  start_stays = take_at (take (records_at (count s)) s) (mended_all (records_in s)) (records_at (count s)) head_long

  part_stays : (at k : ℕ) → at + k ≤ records_at (count s) → take k (drop at (mended_of s)) ≡ take k (drop at s)
  part_stays at k h = same_part at k (records_at (count s)) (mended_of s) s h start_stays

  pub version_stays : version (mended_of s) ≡ version s
  version_stays = ap le (part_stays 0 2 (omega arith))

  pub count_stays : count (mended_of s) ≡ count s
  count_stays = ap le (part_stays 2 2 (omega arith))

  pub names_stay : directory (mended_of s) ≡ directory s
  names_stay =
      ap (λ (m : ℕ). take (name_bytes * m) (drop header_bytes (mended_of s))) count_stays
      ∙ part_stays header_bytes (name_bytes * count s) (omega arith)

  -- ---- the records
  after : records (mended_of s) ≡ mended_all (records_in s)
  unfolding mended_of
  after =
      ap (λ (m : ℕ). drop (records_at m) (mended_of s)) count_stays
      ∙ drop_at (take (records_at (count s)) s) (mended_all (records_in s)) (records_at (count s)) head_long

  -- each record is mended, and no other comes or goes
  pub records_mended : records_in (mended_of s) ≡ map mended_record (records_in s)
  records_mended =
      ap₂ (λ (v : ℕ) (l : List ℕ). cut (word_bytes * words_of v) l) version_stays after
      ∙ cut_again (record_bytes s) wide (records_in s) long

  -- the record of a card: its other words stay, and I_CSs is +0 where it was below zero
  pub other_words_in : (i j : ℕ) → (j ≡ number.icss → ⊥)
      → word_at (get_or (records_in (mended_of s)) i []) j ≡ word_at (get_or (records_in s) i []) j
  other_words_in i j d = rw records_mended (other_words_at (record_bytes s) wide (records_in s) long i j d)

  pub icss_in : (i : ℕ)
      → word_at (get_or (records_in (mended_of s)) i []) number.icss
      ≡ cond (signals (get_or (records_in s) i [])) 0 (word_at (get_or (records_in s) i []) number.icss)
  icss_in i = rw records_mended (icss_at_lem (record_bytes s) wide (records_in s) long i)

  pub quiet_in : (i : ℕ) → signals (get_or (records_in (mended_of s)) i []) ≡ false
  quiet_in i = rw records_mended (quiet_at (record_bytes s) wide (records_in s) long i)

  -- which is the record that finding hands out
  pub record_handed : (i : ℕ) → i < count s → get_or (records_in s) i [] ≡ handed (yes (record_of (numbers_of s) i)) s
  record_handed i h =
      cut_at (record_bytes s) (count s) i (records s) records_long some h
      ∙ ap (take (record_bytes s))
      (drop-drop (record_bytes s * i) (records_at (count s)) s
      ∙ ap (λ (m : ℕ). drop (records_at (count s) + m) s) (mul_assoc word_bytes (words_of (version s)) i))

  pub length_stays : length (mended_of s) ≡ length s
  unfolding mended_of
  length_stays =
      length-append (take (records_at (count s)) s) (mended_all (records_in s))
      ∙ ap₂ ◌+◌ head_long (length_cut (record_bytes s) wide (count s) (records s) records_long ∙ records_long)
      ∙ sym whole

  -- ---- a sound library
  headed_still : headed (mended_of s) ≡ true
  headed_still =
      rw (
        version_stays,
        count_stays,
        ap le (part_stays 4 4 (omega arith)),
        ap le (part_stays 8 4 (omega arith)),
        ap le (part_stays 12 4 (omega arith)),
        length_stays,
      )
      sound.header

  pub mended_sound : Sound (mended_of s)
  mended_sound =
      library_pass (record { header = headed_still; names = subst SoundNames (sym names_stay) sound.names })

  -- ---- once more
  pub none_left : count_of (mended_of s) ≡ 0
  unfolding count_of
  none_left = ap signalling records_mended ∙ all_quiet (record_bytes s) wide (records_in s) long

  -- where there is nothing to mend, the library comes out byte for byte
  pub nothing_to_mend : count_of s ≡ 0 → mended_of s ≡ s
  unfolding mended_of count_of
  nothing_to_mend z =
      ap (λ (l : List ℕ). take (records_at (count s)) s ++ l)
      (quiet_same (record_bytes s) (count s) (records s) records_long some z)
      ∙ take-append-drop (records_at (count s)) s

-- mended again it stays as it is
pub mended_again : (s : List ℕ) → Sound s → mended_of (mended_of s) ≡ mended_of s
mended_again s g = nothing_to_mend (mended_of s) (mended_sound s g) (none_left s g)
