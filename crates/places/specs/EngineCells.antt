-- What the engine goes by, and nobody beside 01 needs: a cell is a number for what a kind and an address name, read off the list of places, or for
-- what an index names behind an indexed port. The engine's functions take whatever table of cells is lent; `cell_table` is that of a chip's list.
-- Assumes nothing.
use Rattle.std.specs.Prelude.{ℕ, zero, suc, ◌+◌, ◌-◌, ◌*◌, ◌/◌, ◌%◌, Bool, true, false, cond, ◌&&◌, List, [], ◌∷◌, eqb, leb, ltb, get_or}
use Rattle.file.specs.declared.chip.Chip.{Chip}
use Rattle.file.specs.declared.registers.File.{File}
use Rattle.file.specs.File.{register, seen}
use Rattle.file.specs.Names.{SRX, CRX, GRX, ARX}
use Rattle.file.specs.Registers.{register_count}
use Rattle.file.specs.State.{unasked}
use Rattle.places.specs.declared.place.Place.{Place}
use Rattle.places.specs.declared.place.Place.TheVariants.{Register, Attribute, Fixed, DeviceId, ToggleState, AttributeIndex, PaletteState, VPortState, ReadAddress, WriteAddress, PixelData, ToggleReset, Unnamed, UnnamedAttribute, CurrentLine, Passing}
use Rattle.places.specs.Lookup.{attribute_index, selects, first, place_of_row, other_way, held_in, inside_in}
use Rattle.places.specs.Profile.{Reading, gives_held, gives_fixed, gives_device_id, gives_toggle, gives_palette_state, gives_vport_state, gives_dac_state, gives_address, gives_pixel, resets_toggle, gives_line, names_nothing, Writing, stores_to, read_only, sets_address, writes_pixel, stores_nothing, passes_lines, profile}
use Rattle.places.specs.Places.{Index, any, sr, cr, gr, ar, index_due, data_due, Row, shared_places, places, sr6, pci00}

-- ---- the numbers of cells

-- a register's cell is its number; the places that stand alone follow from 6Ch on, where the registers end, the indexed ports from 78h on, and from 7Dh
-- on the address is not held, or 7Fh stands behind an index that names no register
abbrev pub first_alone : ℕ
first_alone = 0x6C

abbrev pub first_indexed : ℕ
first_indexed = 0x78

-- nothing at all; what else there may be where an address is not held stands at `nothing_at`
abbrev pub nothing_held : ℕ
nothing_held = 0x7F

-- 80h more at width 2
abbrev pub wider : ℕ
wider = 0x80

unfoldable pub alone : List Place
alone =
    PaletteState
    ∷ ReadAddress
    ∷ WriteAddress
    ∷ PixelData
    ∷ ToggleReset
    ∷ Fixed pci00
    ∷ DeviceId
    ∷ Fixed sr6
    ∷ ToggleState
    ∷ AttributeIndex
    ∷ VPortState
    ∷ CurrentLine
    ∷ []

-- what a cell names, whatever the file holds: no register where it names none of these
unfoldable pub plain_place : ℕ → Place
unfolding alone
plain_place cell = cond (ltb cell register_count) (Register cell) (get_or alone (cell - first_alone) Unnamed)

unfoldable pub plain_cell : Place → ℕ
plain_cell (Register n) = n
plain_cell (Attribute n) = n
plain_cell PaletteState = 0x6C
plain_cell ReadAddress = 0x6D
plain_cell WriteAddress = 0x6E
plain_cell PixelData = 0x6F
plain_cell ToggleReset = 0x70
plain_cell (Fixed value) = cond (eqb value pci00) 0x71 0x73
plain_cell DeviceId = 0x72
plain_cell ToggleState = 0x74
plain_cell AttributeIndex = 0x75
plain_cell VPortState = 0x76
plain_cell CurrentLine = 0x77
plain_cell Unnamed = nothing_held
plain_cell UnnamedAttribute = nothing_held
plain_cell Passing = nothing_held

-- the cell of an indexed port, by its rows' index
unfoldable pub indexed_cell : Index → ℕ
indexed_cell any = nothing_held
indexed_cell (sr n) = 0x78
indexed_cell (cr n) = 0x79
indexed_cell (gr n) = 0x7A
indexed_cell (ar n) = 0x7B
indexed_cell index_due = 0x7C
indexed_cell (data_due n) = 0x7C

-- ---- the cells of the list of places

-- the rows of a kind, and those of an address among them
unfoldable pub of_kind : ℕ → List Row → List Row
of_kind kind [] = []
of_kind kind (row ∷ rows) = cond (eqb kind row.kind) (row ∷ of_kind kind rows) (of_kind kind rows)

unfoldable pub of_address : ℕ → List Row → List Row
of_address address [] = []
of_address address (row ∷ rows) = cond (eqb address row.address) (row ∷ of_address address rows) (of_address address rows)

unfoldable pub rows_in : List Row → ℕ → ℕ → List Row
rows_in rows kind address = of_address address (of_kind kind rows)

unfoldable pub rows_at : Chip → ℕ → ℕ → List Row
rows_at chip kind address = rows_in (places chip) kind address

unfoldable pub cell_of : List Row → ℕ
cell_of [] = nothing_held
cell_of (row ∷ []) = plain_cell row.place + wider * (row.width - 1)
cell_of (row ∷ next ∷ rows) = indexed_cell row.index

-- the cell of an address's rows
unfoldable pub held_cell : Chip → ℕ → ℕ → ℕ
held_cell chip kind address = cell_of (rows_at chip kind address)

-- 02, 2/13: where an address is not held it is held in the other direction only, or inside a wider register, or there is nothing at all
abbrev pub other_way_held : ℕ
other_way_held = 0x7D

abbrev pub wider_held : ℕ
wider_held = 0x7E

-- 02, 2/13, the cell of an address that has no row: '16 is tested before 17 and 17 before 4'
unfoldable pub nothing_at : Chip → ℕ → ℕ → ℕ
nothing_at chip kind address =
    cond (held_in (places chip) (other_way kind) address) other_way_held (cond (inside_in (places chip) kind address) wider_held nothing_held)

unfoldable pub cell_at : Chip → ℕ → ℕ → ℕ
cell_at chip kind address = cond (eqb (held_cell chip kind address) nothing_held) (nothing_at chip kind address) (held_cell chip kind address)

-- the place that a file selects among rows
unfoldable pub chosen : File → List Row → Place
chosen f rows = place_of_row (first (λ (row : Row). selects f row.index) rows)

-- registers of which SRX, CRX, GRX and ARX hold a number
abbrev pub indices_at : ℕ → List ℕ
indices_at n = 0 ∷ n ∷ n ∷ n ∷ n ∷ []

-- so many cells, one for each number from n on that the index registers may hold
unfoldable pub cells_from : List Row → ℕ → ℕ → List ℕ
cells_from rows n zero = []
cells_from rows n (suc count) = plain_cell (chosen (seen (indices_at n) unasked) rows) ∷ cells_from rows (n + 1) count

-- the cells behind an indexed port, by its index; the ports are those of both chips
unfoldable pub behind_port : ℕ → ℕ → List ℕ
behind_port address count = cells_from (rows_in shared_places 2 address) 0 count

-- ---- the engine's one table, by sections: each begins where the one before it ends

-- port reads and port writes from 3B0h on
abbrev pub first_port : ℕ
first_port = 0x3B0

abbrev pub port_count : ℕ
port_count = 48

abbrev pub port_writes : ℕ
port_writes = port_count

-- what stands behind SRX, CRX, GRX and ARX, by as many numbers as these may hold
abbrev pub behind_srx : ℕ
behind_srx = port_writes + port_count

abbrev pub count_srx : ℕ
count_srx = 32

abbrev pub behind_crx : ℕ
behind_crx = behind_srx + count_srx

abbrev pub count_crx : ℕ
count_crx = 64

abbrev pub behind_grx : ℕ
behind_grx = behind_crx + count_crx

abbrev pub count_grx : ℕ
count_grx = 64

abbrev pub behind_arx : ℕ
behind_arx = behind_grx + count_grx

abbrev pub count_arx : ℕ
count_arx = 32

-- config space, which stands at 300h of MMIO too
abbrev pub config_space : ℕ
config_space = behind_arx + count_arx

abbrev pub config_count : ℕ
config_count = 6

abbrev pub config_in_mmio : ℕ
config_in_mmio = 0x300

-- MMIO from 0 on
abbrev pub mmio_space : ℕ
mmio_space = config_space + config_count

abbrev pub mmio_count : ℕ
mmio_count = 0x110

-- 02, 10/13, 'MMIO 140h gives the line, CSL': MMIO reads and MMIO writes from there on. All below is held both ways or not at all
abbrev pub csl_reads : ℕ
csl_reads = mmio_space + mmio_count

abbrev pub csl_address : ℕ
csl_address = 0x140

abbrev pub csl_count : ℕ
csl_count = 2

abbrev pub csl_writes : ℕ
csl_writes = csl_reads + csl_count

abbrev pub cell_count : ℕ
cell_count = csl_writes + csl_count

-- one section of a table: so many entries by a rule
unfoldable pub tabled : ℕ → (ℕ → ℕ) → List ℕ
tabled zero rule = []
tabled (suc count) rule = rule 0 ∷ tabled count (λ (i : ℕ). rule (suc i))

unfoldable pub table_cell : Chip → ℕ → ℕ
table_cell chip n =
    cond (ltb n port_writes) (cell_at chip 2 (first_port + n))
    (cond (ltb n behind_srx) (cell_at chip 3 (first_port + (n - port_writes)))
    (cond (ltb n behind_crx) (get_or (behind_port 0x3C5 count_srx) (n - behind_srx) 0)
    (cond (ltb n behind_grx) (get_or (behind_port 0x3B5 count_crx) (n - behind_crx) 0)
    (cond (ltb n behind_arx) (get_or (behind_port 0x3CF count_grx) (n - behind_grx) 0)
    (cond (ltb n config_space) (get_or (behind_port 0x3C1 count_arx) (n - behind_arx) 0)
    (cond (ltb n mmio_space) (cell_at chip 0 (n - config_space))
    (cond (ltb n csl_reads) (cell_at chip 4 (n - mmio_space))
    (cond (ltb n csl_writes) (cell_at chip 4 (csl_address + (n - csl_reads))) (cell_at chip 5 (csl_address + (n - csl_writes)))))))))))

-- 02, 10/13: the table of a chip
unfoldable pub cell_table : Chip → List ℕ
cell_table chip = tabled cell_count (table_cell chip)

-- ---- what the engine finds in whatever table is lent

unfoldable pub port_cell : List ℕ → Bool → ℕ → ℕ
port_cell cells write address =
    cond (leb first_port address && ltb address (first_port + port_count))
    (get_or cells (cond write port_writes 0 + (address - first_port)) 0)
    nothing_held

unfoldable pub config_cell : List ℕ → ℕ → ℕ
config_cell cells address = cond (ltb address config_count) (get_or cells (config_space + address) 0) nothing_held

-- 02, 10/13: the cell of an MMIO address from 140h on
unfoldable pub csl_cell : List ℕ → Bool → ℕ → ℕ
csl_cell cells write address =
    cond (leb csl_address address && ltb address (csl_address + csl_count))
    (get_or cells (cond write csl_writes csl_reads + (address - csl_address)) 0)
    nothing_held

unfoldable pub mmio_cell : List ℕ → Bool → ℕ → ℕ
mmio_cell cells write address =
    cond (ltb address mmio_count) (get_or cells (mmio_space + address) 0)
    (cond (leb config_in_mmio address) (config_cell cells (address - config_in_mmio)) (csl_cell cells write address))

unfoldable pub cell_in : List ℕ → ℕ → ℕ → ℕ
cell_in cells kind address =
    cond (eqb (kind / 2) 0) (config_cell cells address)
    (cond (eqb (kind / 2) 1) (port_cell cells (eqb (kind % 2) 1) address)
    (cond (eqb (kind / 2) 2) (mmio_cell cells (eqb (kind % 2) 1) address) nothing_held))

-- 02, 2/13: the cell of an address that is not held, one of the three, whatever its bit 80h
unfoldable pub is_nothing : ℕ → Bool
is_nothing cell = leb other_way_held (cell % wider)

-- 1 or 2 bytes
unfoldable pub cell_width : ℕ → ℕ
cell_width cell = cond (ltb cell wider) 1 2

-- what a 3C0h write stores into: the index, or the register behind it
unfoldable pub attribute_place : Bool → ℕ → Place
attribute_place toggle cell = cond toggle (cond (ltb cell register_count) (Attribute cell) UnnamedAttribute) (Attribute ARX)

-- the cell that the index registers choose behind an indexed port's cell; any other cell is itself
unfoldable pub behind_cell : List ℕ → List ℕ → ℕ → ℕ
behind_cell cells registers cell =
    cond (ltb cell first_indexed) cell
    (cond (eqb cell 0x79) (get_or cells (behind_crx + get_or registers CRX 0 % count_crx) 0)
    (cond (eqb cell 0x78) (get_or cells (behind_srx + get_or registers SRX 0 % count_srx) 0)
    (cond (eqb cell 0x7A) (get_or cells (behind_grx + get_or registers GRX 0 % count_grx) 0)
    (get_or cells (behind_arx + get_or registers ARX 0 % count_arx) 0))))

-- what stands behind the indexed ports in a file, from their first cell on
unfoldable pub indexed_places : List ℕ → File → List Place
unfolding plain_place attribute_place register attribute_index
indexed_places cells f =
    plain_place (get_or cells (behind_srx + register f SRX % count_srx) 0)
    ∷ plain_place (get_or cells (behind_crx + register f CRX % count_crx) 0)
    ∷ plain_place (get_or cells (behind_grx + register f GRX % count_grx) 0)
    ∷ plain_place (get_or cells (behind_arx + attribute_index f) 0)
    ∷ attribute_place f.state.toggle (get_or cells (behind_arx + attribute_index f) 0)
    ∷ []

-- what a cell names in a file, whatever its width
unfoldable pub cell_place : List ℕ → File → ℕ → Place
unfolding plain_place indexed_places
cell_place cells f cell =
    cond (ltb (cell % wider) first_indexed) (plain_place (cell % wider))
    (get_or (indexed_places cells f) (cell % wider - first_indexed) Unnamed)

-- ---- what the engine asks of a place

-- its register, if it names one, is a register of the file
unfoldable pub reads_file : Reading → Bool
reads_file (gives_held number) = ltb number register_count
reads_file (gives_fixed value) = true
reads_file gives_device_id = true
reads_file gives_toggle = true
reads_file gives_palette_state = true
reads_file gives_vport_state = true
reads_file gives_dac_state = true
reads_file gives_address = true
reads_file gives_pixel = true
reads_file resets_toggle = true
reads_file gives_line = true
reads_file names_nothing = true

unfoldable pub writes_file : Writing → Bool
writes_file (stores_to number flips) = ltb number register_count
writes_file read_only = true
writes_file (sets_address reading) = true
writes_file writes_pixel = true
writes_file (stores_nothing flips) = true
writes_file passes_lines = true

unfoldable pub in_file : Place → Bool
unfolding profile reads_file writes_file
in_file place = reads_file (profile place).reading && writes_file (profile place).writing

-- what of a value a write takes: the pointer's places take a byte
unfoldable pub taken : Writing → ℕ → ℕ
taken (stores_to number flips) value = value
taken read_only value = value
taken (sets_address reading) value = value % 256
taken writes_pixel value = value % 256
taken (stores_nothing flips) value = value
taken passes_lines value = value

unfoldable pub takes_bytes : Writing → Bool
takes_bytes (stores_to number flips) = false
takes_bytes read_only = false
takes_bytes (sets_address reading) = true
takes_bytes writes_pixel = true
takes_bytes (stores_nothing flips) = false
takes_bytes passes_lines = false
