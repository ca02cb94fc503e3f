-- The numbers of the limits, and of what options take and stand for where they are not given.
use Rattle.std.specs.Prelude.{◌≡◌}
use Rattle.cg_limit.specs.declared.TheConstants.{DEFAULT_MIN, DEFAULT_ROUNDS, DEFAULT_WIDTH, LEAST_DEMO_SIZE, LEAST_MIN, LEAST_ROUNDS, LEAST_WIDTH}
use Rattle.cg_limit.specs.declared.TheConstants.{MOST_CLAIM_NODES, MOST_COVER_INPUTS, MOST_DEMO_SIZE, MOST_FILE_BYTES, MOST_LIBRARY_CELLS, MOST_MIN}
use Rattle.cg_limit.specs.declared.TheConstants.{MOST_NESTING, MOST_NETS, MOST_PINS, MOST_REGISTERS, MOST_ROUNDS, MOST_ROWS}
use Rattle.cg_limit.specs.declared.TheConstants.{MOST_VARIABLES, MOST_WIDTH}

-- what a file, a netlist, a library, a claim, a stimulus and a formula may have
pub record HasTheseLimits : Type 0 where
  pub file_bytes : MOST_FILE_BYTES ≡ 67108864
  pub nets : MOST_NETS ≡ 1048576
  pub registers : MOST_REGISTERS ≡ 65536
  pub cover_inputs : MOST_COVER_INPUTS ≡ 256
  pub library_cells : MOST_LIBRARY_CELLS ≡ 4096
  pub nesting : MOST_NESTING ≡ 64
  pub claim_nodes : MOST_CLAIM_NODES ≡ 65536
  pub pins : MOST_PINS ≡ 16
  pub rows : MOST_ROWS ≡ 1048576
  pub variables : MOST_VARIABLES ≡ 16777216

-- what `--min`, `--width`, `--rounds` and `demo` take, and what stands for each option where it is not given
pub record HasTheseBounds : Type 0 where
  pub least_min : LEAST_MIN ≡ 1
  pub most_min : MOST_MIN ≡ 1024
  pub default_min : DEFAULT_MIN ≡ 1
  pub least_width : LEAST_WIDTH ≡ 1
  pub most_width : MOST_WIDTH ≡ 256
  pub default_width : DEFAULT_WIDTH ≡ 32
  pub least_rounds : LEAST_ROUNDS ≡ 0
  pub most_rounds : MOST_ROUNDS ≡ 16
  pub default_rounds : DEFAULT_ROUNDS ≡ 4
  pub least_demo_size : LEAST_DEMO_SIZE ≡ 1
  pub most_demo_size : MOST_DEMO_SIZE ≡ 4096
