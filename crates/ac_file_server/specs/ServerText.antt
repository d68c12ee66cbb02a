-- The text of the file server and of its three clients, line by line.
use Rattle.std.specs.Prelude.{ℕ, List, [], ◌∷◌, ◌++◌, codes}
use Rattle.std.specs.Fmt.{decimal}

-- each line ends with a line feed
abbrev pub lines : List (List ℕ) → List ℕ
lines [] = []
lines (line ∷ more) = line ++ 10 ∷ lines more

-- the files, the cores and the channels
abbrev pub declared : List (List ℕ)
declared =
    codes "file one(\"one.dat\");" ∷
    codes "file two(\"two.dat\");" ∷
    codes "core server(serve);" ∷
    codes "core c0(client0);" ∷
    codes "core c1(client1);" ∷
    codes "core c2(client2);" ∷
    codes "channel q0(c0, server, 4);" ∷
    codes "channel q1(c1, server, 4);" ∷
    codes "channel q2(c2, server, 4);" ∷
    codes "channel r0(server, c0, 4);" ∷
    codes "channel r1(server, c1, 4);" ∷
    codes "channel r2(server, c2, 4);" ∷ []

-- what is done for a request
abbrev pub requests : List (List ℕ)
requests =
    codes "async int put(int at, int v) {" ∷
    codes "  int b[1];" ∷
    codes "  int x;" ∷
    codes "  int y;" ∷
    codes "  b[0] = v;" ∷
    codes "  do {" ∷
    codes "    async x = Write(one, at, 1, b);" ∷
    codes "    async y = Write(two, at, 1, b);" ∷
    codes "  } finish;" ∷
    codes "  if (x == 1 && y == 1) return 0;" ∷
    codes "  return FAULT;" ∷
    codes "}" ∷
    codes "async int get(int at) {" ∷
    codes "  int b[1];" ∷
    codes "  int d[1];" ∷
    codes "  int v = FAULT;" ∷
    codes "  pair: do {" ∷
    codes "    async { int n = Read(one, at, 1, b); if (n == 1) { v = b[0]; cancel pair; } }" ∷
    codes "    async { int n = Read(two, at, 1, d); if (n == 1) { v = d[0]; cancel pair; } }" ∷
    codes "  } finish;" ∷
    codes "  return v;" ∷
    codes "}" ∷
    codes "async int handle(int m) {" ∷
    codes "  if (m % 2 == 1) m = put(m / 512, m / 2 % 256);" ∷
    codes "  else m = get(m / 512);" ∷
    codes "  return m;" ∷
    codes "}" ∷ []

-- a thread for each client
abbrev pub serving : List (List ℕ)
serving =
    codes "async void serve0() {" ∷
    codes "  int m;" ∷
    codes "  int r;" ∷
    codes "  Recv(q0, &m);" ∷
    codes "  while (m >= 0) { r = handle(m); Send(r0, r); Recv(q0, &m); }" ∷
    codes "}" ∷
    codes "async void serve1() {" ∷
    codes "  int m;" ∷
    codes "  int r;" ∷
    codes "  Recv(q1, &m);" ∷
    codes "  while (m >= 0) { r = handle(m); Send(r1, r); Recv(q1, &m); }" ∷
    codes "}" ∷
    codes "async void serve2() {" ∷
    codes "  int m;" ∷
    codes "  int r;" ∷
    codes "  Recv(q2, &m);" ∷
    codes "  while (m >= 0) { r = handle(m); Send(r2, r); Recv(q2, &m); }" ∷
    codes "}" ∷
    codes "async void serve() {" ∷
    codes "  do { async serve0(); async serve1(); async serve2(); } finish;" ∷
    codes "}" ∷ []

-- all but the clients
abbrev pub server_text : List ℕ
server_text = lines declared ++ (lines requests ++ lines serving)

-- the first client, of so many turns: in each it writes a byte and reads it back
abbrev pub client0 : ℕ → List (List ℕ)
client0 turns =
    codes "async void client0() {" ∷
    codes "  int j;" ∷
    codes "  int s;" ∷
    codes "  int v;" ∷
    (codes "  for (j = 0; j < " ++ decimal turns ++ codes "; j = j + 1) {") ∷
    codes "    Send(q0, j * 3 * 512 + j * 7 % 256 * 2 + 1);" ∷
    codes "    Recv(r0, &v);" ∷
    codes "    Send(q0, j * 3 * 512);" ∷
    codes "    Recv(r0, &v);" ∷
    codes "    s = s + v;" ∷
    codes "  }" ∷
    codes "  Send(q0, -1);" ∷
    codes "  printf(\"%d\\n\", s);" ∷
    codes "}" ∷ []

-- the second client
abbrev pub client1 : ℕ → List (List ℕ)
client1 turns =
    codes "async void client1() {" ∷
    codes "  int j;" ∷
    codes "  int s;" ∷
    codes "  int v;" ∷
    (codes "  for (j = 0; j < " ++ decimal turns ++ codes "; j = j + 1) {") ∷
    codes "    Send(q1, (j * 3 + 1) * 512 + (j * 7 + 1) % 256 * 2 + 1);" ∷
    codes "    Recv(r1, &v);" ∷
    codes "    Send(q1, (j * 3 + 1) * 512);" ∷
    codes "    Recv(r1, &v);" ∷
    codes "    s = s + v;" ∷
    codes "  }" ∷
    codes "  Send(q1, -1);" ∷
    codes "  printf(\"%d\\n\", s);" ∷
    codes "}" ∷ []

-- the third client
abbrev pub client2 : ℕ → List (List ℕ)
client2 turns =
    codes "async void client2() {" ∷
    codes "  int j;" ∷
    codes "  int s;" ∷
    codes "  int v;" ∷
    (codes "  for (j = 0; j < " ++ decimal turns ++ codes "; j = j + 1) {") ∷
    codes "    Send(q2, (j * 3 + 2) * 512 + (j * 7 + 2) % 256 * 2 + 1);" ∷
    codes "    Recv(r2, &v);" ∷
    codes "    Send(q2, (j * 3 + 2) * 512);" ∷
    codes "    Recv(r2, &v);" ∷
    codes "    s = s + v;" ∷
    codes "  }" ∷
    codes "  Send(q2, -1);" ∷
    codes "  printf(\"%d\\n\", s);" ∷
    codes "}" ∷ []

-- ---- the whole

abbrev pub load_text : ℕ → List ℕ
load_text turns = server_text ++ (lines (client0 turns) ++ (lines (client1 turns) ++ lines (client2 turns)))
