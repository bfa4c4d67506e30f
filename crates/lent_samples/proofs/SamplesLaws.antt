-- What is read of samples where their bytes are whole and each names a lane.
use Rattle.std.proofs.Common.{List, ap, drop, eq-eqb, length, refl, suc, true, zero, ℕ, ◌%◌, ◌/◌, ◌∙◌, ◌≡◌}
use Rattle.std.specs.List.{list_all}
use Rattle.std.specs.Simd.{first_chunks}
use lib.ListN.{length-map}
use Rattle.base.specs.Reply.{accepted, converted}
use Rattle.lent_samples.specs.Samples.{lent_sample, samples_in, sample_parts, names_lane, read_samples}

pub read-whole : (bytes : List ℕ) → length bytes % 22 ≡ 0 → list_all names_lane (sample_parts bytes) ≡ true → read_samples bytes ≡ accepted (samples_in bytes)
unfolding read_samples
read-whole bytes whole lanes = rw (eq-eqb (length bytes % 22) 0 whole, lanes)

-- there are as many as their bytes make
pub samples-count : (bytes : List ℕ) → length bytes % 22 ≡ 0 → list_all names_lane (sample_parts bytes) ≡ true
    → converted length (read_samples bytes) ≡ accepted (length (sample_parts bytes))
samples-count bytes whole lanes = rw (read-whole bytes whole lanes, length-map (sample_parts bytes) lent_sample)

chunks-length : (long n : ℕ) (bytes : List ℕ) → length (first_chunks long n bytes) ≡ n
chunks-length long zero bytes = refl
chunks-length long (suc n) bytes = ap suc (chunks-length long n (drop long bytes))

-- as many samples as the bytes have room for
pub samples-long : (bytes : List ℕ) → length (samples_in bytes) ≡ length bytes / 22
samples-long bytes = length-map (sample_parts bytes) lent_sample ∙ chunks-length 22 (length bytes / 22) bytes
