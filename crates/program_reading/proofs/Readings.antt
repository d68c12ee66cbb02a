-- How often a text is read: each read but the last gives a byte at least, so there are no more than one for each byte that was taken and one
-- more. What is taken in two steps is taken in one, and the reads of both are counted together.
use Rattle.std.proofs.Common.{ℕ, ◌+◌, ◌≤◌, List, ◌++◌, length, Option, None, Some, ap, sym, ◌∙◌, append_assoc, length-append, arith}
use Rattle.std.specs.Io.KnownBytes.{Consumes}
use Rattle.ac_outside.specs.Told.{LibraryTold, CountsOne, CountsAtMost}
use Rattle.program_reading.specs.Reading.{TookByReads}

counts_more : (first before after : Option ℕ) (so_far most : ℕ) → CountsAtMost first before so_far → CountsOne before after → so_far + 1 ≤ most → CountsAtMost first after most
counts_more None None None so_far most x y less = tt
counts_more None None (Some after) so_far most x y less = absurd y
counts_more None (Some before) after so_far most x y less = absurd x
counts_more (Some first) None after so_far most x y less = absurd x
counts_more (Some first) (Some before) None so_far most x y less = absurd y
counts_more (Some first) (Some before) (Some after) so_far most x y less = omega (arith, x, y, less)

takes_both : (told between left : Option (List ℕ)) (bytes more : List ℕ) → Consumes told between bytes → Consumes between left more → Consumes told left (bytes ++ more)
takes_both None between left bytes more x y = tt
takes_both (Some told) None left bytes more x y = absurd x
takes_both (Some told) (Some between) None bytes more x y = absurd y
takes_both (Some told) (Some between) (Some left) bytes more x y = x ∙ ap (λ rest. bytes ++ rest) y ∙ sym (append_assoc bytes more left)

-- one read more, which gave these bytes
pub took_more : (first before after : LibraryTold) (file bytes more : List ℕ) → Consumes (first.text_at file) before.left bytes → Consumes before.left after.left more
    → CountsAtMost first.reads before.reads (length bytes) → CountsOne before.reads after.reads → TookByReads first after file
took_more first before after file bytes more x y few one = record {
  taken = bytes ++ more;
  consumed = takes_both (first.text_at file) before.left after.left bytes more x y;
  few = counts_more first.reads before.reads after.reads (length bytes) (length (bytes ++ more) + 1) few one (omega (arith, length-append bytes more));
}
