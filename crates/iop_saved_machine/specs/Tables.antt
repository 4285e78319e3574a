-- How the blocks that are used, the registered libraries and the live stubs are spelled. This
-- project's own profile.
use Rattle.std.specs.Prelude.{ℕ, Some, List, [], ◌∷◌}
use Rattle.iop_registry.specs.declared.registry.Entry.{Entry}
use Rattle.iop_saved_script.specs.Forms.{list_of}
use Rattle.iop_saved_tables.specs.Records.{block_form, library_form, stub_form, next_stub}
use Rattle.iop_saved_tables.specs.Tables.{put_library, used_form}
use Rattle.iop_snapshot.specs.Forms.{Form, both, seen_as, series}
use Rattle.iop_snapshot.specs.Putting.{next_form}
use Rattle.iop_stubs.specs.declared.live_stub.Stub.{Stub}
use Rattle.iop_sysmem.specs.BlockMap.{BlockMap}
use Rattle.iop_sysmem.specs.declared.block.Block.{Block}
use Rattle.iop_sysmem.specs.declared.blocks.TheConstants.{KERNEL}

pub record TableParts : Type 0 where
  -- the blocks that are used, in the order of their starts
  pub used : List Block
  -- the libraries, in the order of their registration
  pub libraries : List Entry
  -- the live stubs, in the order of their places
  pub stubs : List Stub

abbrev pub tables_with : List Block × (List Entry × List Stub) → TableParts
tables_with lists = record { used = lists.0; libraries = lists.1.0; stubs = lists.1.1 }

abbrev pub table_lists : TableParts → List Block × (List Entry × List Stub)
table_lists t = (t.used, (t.libraries, t.stubs))

-- the lists stand one behind the other, each in a form of its own
abbrev pub tables_nest : Form (List Block) → Form (List Entry) → Form (List Stub)
    → Form (List Block × (List Entry × List Stub))
tables_nest used libraries stubs = both used (λ _. both libraries (λ _. stubs))

unfoldable pub tables_form : Form (List Block) → Form (List Entry) → Form (List Stub)
    → Form TableParts
tables_form used libraries stubs =
    seen_as (tables_nest used libraries stubs) (λ lists. Some (tables_with lists)) table_lists

-- how they are written
abbrev pub written_tables : Form TableParts
written_tables = tables_form (list_of block_form) (list_of library_form) (list_of stub_form)

-- the blocks of a RAM of so many bytes, of which the kernel's alone is used
abbrev pub kernel_alone : (size : ℕ) → BlockMap
kernel_alone size = record { size = size; used = KERNEL ∷ [] }

-- the libraries that a registry of none takes one behind the other
abbrev pub libraries_form : Form (List Entry)
libraries_form = series library_form (next_form put_library library_form [])

-- as many stubs as can be live
abbrev pub stubs_form : Form (List Stub)
stubs_form = series stub_form next_stub

-- how they are read, for a RAM of so many bytes: blocks and libraries that can be put back, and
-- stubs, of which RAM, which stands behind them, says whether they can
abbrev pub read_tables : (size : ℕ) → Form TableParts
read_tables size = tables_form (used_form (kernel_alone size)) libraries_form stubs_form
