-- The steps of reading a file.
use Rattle.std.proofs.Common.{◌≡◌, ℕ, ◌+◌, ◌-◌, ◌<◌, ◌≤◌, true, Option, Some, None, Ok, IfSome, option_map, List, ◌++◌, length, take, drop, arith, ap, sym, ◌∙◌, subst}
use Rattle.std.proofs.Math.Seq.{take-add}
use Rattle.std.proofs.lemmas.List.{take_at, drop_at, take-append-le, length-take-le, drop-drop, length-drop, take_all, drop_all}
use borrow.Rule.Slice.PartMut.{put_mid, post_of}
use Rattle.iop_ports.specs.Files.{FilesTold, after_reading, Reads}
use Rattle.iop_front.specs.Reading.{file_named, opened_with, HasRead}

-- so many bytes of the file were read
abbrev pub HasReadSoFar : List ℕ → ℕ → ℕ → List ℕ → Option FilesTold → Option FilesTold → Type 0
HasReadSoFar name faults len buf None new = new ≡ None
HasReadSoFar name faults len buf (Some files) new =
    (len ≤ length (file_named files name))
    × (take len buf ≡ take len (file_named files name))
    × (new ≡ Some (opened_with name true faults (drop len (file_named files name)) files))

-- the front of a buffer into which more was read
take_more_read : (len n k : ℕ) (buf ys file : List ℕ) → len ≤ length buf → n ≤ length ys
    → take len buf ≡ take len file → take n ys ≡ take n (drop len file)
    → take (len + n) (put_mid len k buf ys) ≡ take (len + n) file
take_more_read len n k buf ys file room fits front more =
    let size = length-take-le len buf room in
    let zs = ys ++ post_of len k buf in
    take-add len n (take len buf ++ zs)
    ∙ ap (λ t. t ++ take n (drop len (take len buf ++ zs))) (take_at (take len buf) zs len size)
    ∙ ap (λ t. take len buf ++ take n t) (drop_at (take len buf) zs len size)
    ∙ ap (λ t. take len buf ++ t) (take-append-le n ys (post_of len k buf) fits ∙ more)
    ∙ ap (λ t. t ++ take n (drop len file)) front ∙ sym (take-add len n file)

-- a read of n bytes into a buffer in which there are len, before which the files told this
pub record ReadsMore (n len : ℕ) (buf ys : List ℕ) (mid new : Option FilesTold) : Type 0 where
  pub within : len ≤ length buf
  pub fits : n ≤ length ys
  pub told : new ≡ option_map (after_reading n) mid
  pub bytes : IfSome mid (λ files. Reads n ys files.left)

module _ (name : List ℕ) (faults len n k : ℕ) (buf ys : List ℕ) where
  pub so_far_more : (old mid new : Option FilesTold) → ReadsMore n len buf ys mid new
      → HasReadSoFar name faults len buf old mid
      → HasReadSoFar name faults (len + n) (put_mid len k buf ys) old new
  so_far_more None mid new r h = r.told ∙ ap (option_map (after_reading n)) h
  so_far_more (Some files) mid new r h =
      let file = file_named files name in
      let reads =
      subst (λ (o : Option FilesTold). IfSome o (λ f. Reads n ys f.left)) h.2 r.bytes in (
        omega (arith, reads.within, length-drop len file, h.0),
        take_more_read len n k buf ys file r.within r.fits h.1 reads.bytes,
        r.told ∙ ap (option_map (after_reading n)) h.2
            ∙ ap (λ left. Some (opened_with name true faults left files)) (drop-drop n len file),
      )

  -- a read gave nothing, so the file has ended
  pub at_the_end : (room : ℕ) (old mid new : Option FilesTold) → n ≡ 0
      → room ≡ length buf → len < room → length ys ≡ length buf - len
      → ReadsMore n len buf ys mid new
      → HasReadSoFar name faults len buf old mid
      → HasRead name room faults (Ok len) (put_mid len k buf ys) old new
  at_the_end room None mid new none all below size r h =
      r.told ∙ ap (option_map (after_reading n)) h
  at_the_end room (Some files) mid new none all below size r h =
      let file = file_named files name in
      let more = so_far_more (Some files) mid new r h in
      let reads =
      subst (λ (o : Option FilesTold). IfSome o (λ f. Reads n ys f.left)) h.2 r.bytes in
      let over : length file ≤ len =
      omega (arith, length-drop len file, ap length (reads.at_end (omega arith) none)) in
      let same : len + n ≡ len = omega arith in (
        omega (arith, h.0),
        subst (λ (m : ℕ). take m (put_mid len k buf ys) ≡ take m file) same more.1
            ∙ take_all len file over ∙ sym (take_all room file (omega arith)),
        more.2 ∙ ap (λ left. Some (opened_with name true faults left files))
            (drop_all (len + n) file (omega arith) ∙ sym (drop_all room file (omega arith))),
      )
