-- `copying::header` meets its contract: five numbers, one after the other.
use Rattle.std.proofs.Common.{◌≡◌, ℕ, w16, w32, ◌∙◌, rules}
use Rattle.std.specs.Int.{to_le_bytes}
use Rattle.bytes_le.specs.Le.{bytes_of}
use Rattle.directory.specs.Format.{header_of, header_bytes, records_at, whole_of}
use Rattle.copying.proofs.header.Goals as goal

two : (x : ℕ) → to_le_bytes w16 x ≡ bytes_of 2 x
two x = search rules

four : (x : ℕ) → to_le_bytes w32 x ≡ bytes_of 4 x
four x = search rules

pub returns : goal.returns
unfolding header_of
returns c =
    let version : c.copy_from_slice.new.self ≡ bytes_of 2 c.args.version =
    c.copy_from_slice.ensures.after ∙ c.to_le_bytes.ensures ∙ two c.args.version in
    let count : c.copy_from_slice-2.new.self ≡ bytes_of 2 c.args.count =
    c.copy_from_slice-2.ensures.after ∙ c.to_le_bytes-2.ensures ∙ two c.args.count in
    let directory : c.copy_from_slice-3.new.self ≡ bytes_of 4 header_bytes =
    c.copy_from_slice-3.ensures.after ∙ c.to_le_bytes-3.ensures ∙ four header_bytes in
    let records : c.copy_from_slice-4.new.self ≡ bytes_of 4 (records_at c.args.count) =
    c.copy_from_slice-4.ensures.after ∙ c.to_le_bytes-4.ensures ∙ four (records_at c.args.count) in
    let whole : c.copy_from_slice-5.new.self ≡ bytes_of 4 (whole_of c.width.result c.args.count) =
    c.copy_from_slice-5.ensures.after ∙ c.to_le_bytes-5.ensures ∙ four (whole_of c.width.result c.args.count) in
    rw (version, count, directory, records, whole, c.width.ensures.0)
