-- The links of rows by their edges, what holds the first and the last unit of each. All that a link asks of edges is whether one duty goes
-- on from the last unit of one row at the first of another; edges tell it as rows or as codes.
use Rattle.std.specs.Prelude.{ℕ, ◌+◌, ◌*◌, Bool, not, ◌&&◌, None, List, ltb, eqb, get_or}
use Rattle.paper.specs.Limits.{most_engines}
use Rattle.paper.specs.Duties.{Held, same}
use Rattle.row_edges.specs.declared.RowEdges.{RowEdges}

-- one duty holds the last unit of row r and the first unit of row r + 1, which is one of the rows that there may be, or the one past them
unfoldable pub link_by : (ℕ → ℕ → Bool) → ℕ → Bool
link_by goes_on r = ltb r most_engines && goes_on r (r + 1)

-- ---- edges as rows

-- a row that holds nothing at its edges
abbrev pub idle_edges : RowEdges
idle_edges = record { first = None; last = None }

-- what holds the first and the last unit of row r
abbrev pub first_edge : List RowEdges → ℕ → Held
first_edge edges r = (get_or edges r idle_edges).first

abbrev pub last_edge : List RowEdges → ℕ → Held
last_edge edges r = (get_or edges r idle_edges).last

-- one duty holds the last unit of row r and the first unit of row s
abbrev pub rows_go_on : List RowEdges → ℕ → ℕ → Bool
rows_go_on edges r s = same (last_edge edges r) (first_edge edges s)

-- the links by them
abbrev pub link_of : List RowEdges → ℕ → Bool
link_of edges = link_by (rows_go_on edges)

-- ---- edges as codes: of row r its first unit at 2·r and its last at 2·r + 1, each as a number that tells which duty holds it (0 for idle,
-- else the duty's number and 1)

-- one duty holds both
abbrev pub same_code : ℕ → ℕ → Bool
same_code g h = not (eqb g 0) && eqb g h

-- what holds the first and the last unit of row r
abbrev pub first_code : List ℕ → ℕ → ℕ
first_code codes r = get_or codes (2 * r) 0

abbrev pub last_code : List ℕ → ℕ → ℕ
last_code codes r = get_or codes (2 * r + 1) 0

-- one duty holds the last unit of row r and the first unit of row s
abbrev pub codes_go_on : List ℕ → ℕ → ℕ → Bool
codes_go_on codes r s = same_code (last_code codes r) (first_code codes s)
